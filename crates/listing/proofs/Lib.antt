pub mod Chunks
pub mod Steps
pub mod Summaries
pub mod Trips
pub mod Numbers
pub mod Marked
pub mod Sizes
