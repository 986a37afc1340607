pub mod Operations
pub mod Calls
pub mod Kinds
pub mod Theorems
