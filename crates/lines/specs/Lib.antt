pub mod Lines
pub mod Fields
pub mod Answers
pub mod Room
