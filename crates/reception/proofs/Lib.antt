pub mod Outcomes
pub mod Deferring
pub mod Inserting
pub mod Toggling
pub mod Judging
