pub mod Characters
pub mod Operations
pub mod Bits
pub mod Fullness
pub mod Stored
pub mod Views
pub mod Replacing
