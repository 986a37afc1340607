pub mod Heads
pub mod Listings
pub mod Sizes
pub mod Printing
pub mod Writers
pub mod Looping
pub mod Examples
