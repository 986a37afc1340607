pub mod Tests
pub mod Members
pub mod Padding
pub mod Throughout
pub mod Indices
pub mod Sorting
