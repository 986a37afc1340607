pub mod Walks
pub mod Slots
pub mod Tables
