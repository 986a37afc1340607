pub mod Lists
pub mod Padding
pub mod Sorting
