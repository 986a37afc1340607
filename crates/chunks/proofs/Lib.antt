pub mod Bits
pub mod Heads
pub mod Marking
pub mod Collected
