pub mod Decoding
pub mod Offsets
pub mod Theorems
