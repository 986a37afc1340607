pub mod Hearing
pub mod Keys
