pub mod Lines
pub mod Calls
pub mod Loop
pub mod Theorems
