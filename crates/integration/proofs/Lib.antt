pub mod Walks
pub mod Searching
pub mod Placing
pub mod Placements
