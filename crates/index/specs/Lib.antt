pub mod Entries
pub mod Theorems
pub mod Keys
pub mod Tabled
