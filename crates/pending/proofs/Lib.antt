pub mod Searches
pub mod Pending
pub mod Earliest
