pub mod Format
pub mod Columns
pub mod Keeping
pub mod Theorems
