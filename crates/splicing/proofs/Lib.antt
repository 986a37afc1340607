pub mod Runs
pub mod Splices
pub mod Reading
pub mod Changes
