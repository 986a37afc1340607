pub mod Calls
pub mod Steps
pub mod Inputs
pub mod Theorems
