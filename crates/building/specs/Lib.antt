pub mod Calls
pub mod Steps
pub mod Assembly
pub mod Theorems
