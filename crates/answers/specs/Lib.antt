pub mod Answers
pub mod Order
