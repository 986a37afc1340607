pub mod Sorting
pub mod Parts
pub mod Copying
