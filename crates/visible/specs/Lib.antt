pub mod Visible
pub mod Shown
