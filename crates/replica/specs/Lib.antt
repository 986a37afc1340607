pub mod Texts
pub mod Outcomes
pub mod Theorems
pub mod Tables
