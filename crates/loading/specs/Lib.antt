pub mod Filling
pub mod Reading
