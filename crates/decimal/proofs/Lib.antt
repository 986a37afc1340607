-- `Laws` is for the crates that link this one.
pub mod Laws
pub mod Alignment
pub mod Scanning
