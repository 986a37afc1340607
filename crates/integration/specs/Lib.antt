pub mod Passes
pub mod Placements
