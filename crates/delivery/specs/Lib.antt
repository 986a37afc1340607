pub mod Steps
pub mod Work
