pub mod Packing
pub mod Order
