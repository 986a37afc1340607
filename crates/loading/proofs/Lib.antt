pub mod Assembling
pub mod Collecting
pub mod Forming
pub mod Gathering
pub mod Loading
pub mod Settling
pub mod Storing
