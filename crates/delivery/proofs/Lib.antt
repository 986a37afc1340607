pub mod Works
pub mod Changes
pub mod Stepping
pub mod Carrying
