pub mod Laying
pub mod Slotting
pub mod Looking
pub mod Passing
pub mod Repeating
