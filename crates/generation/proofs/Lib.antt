pub mod Neighbours
pub mod Inserting
pub mod Toggling
pub mod Judging
