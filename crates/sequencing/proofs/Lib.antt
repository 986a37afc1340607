pub mod Scanning
pub mod Flags
pub mod Leaving
pub mod Taking
