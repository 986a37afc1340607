-- What stands here is for the crates that link this one.
pub mod CodePoints
pub mod Laws
pub mod Ranges
