pub mod Visibility
pub mod Texts
pub mod Shown
