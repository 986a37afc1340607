pub mod Packing
pub mod Places
pub mod Order
pub mod Gathering
pub mod Columns
pub mod Back
