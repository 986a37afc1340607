pub mod Comparing
pub mod Holders
pub mod Having
pub mod Named
pub mod Seeing
