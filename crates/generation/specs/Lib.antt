pub mod Made
pub mod Decisions
