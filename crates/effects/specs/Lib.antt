pub mod Results
pub mod Effects
pub mod Steps
pub mod Counts
pub mod Counting
