pub mod Copies
pub mod Theorems
pub mod Catching
pub mod Archiving
pub mod Examples
pub mod Common
