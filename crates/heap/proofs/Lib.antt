pub mod Columns
pub mod Inserts
pub mod Heaps
