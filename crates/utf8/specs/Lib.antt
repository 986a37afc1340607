pub mod CodePoints
pub mod Encoding
pub mod Encoded
pub mod Ranges
