pub mod Decoding
pub mod Offsets
