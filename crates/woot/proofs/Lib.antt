pub mod Situations
pub mod Text
