pub mod Format
pub mod Calls
pub mod Reading
pub mod Theorems
