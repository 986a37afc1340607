pub mod Signed
pub mod Answering
pub mod Slots
pub mod Receiving
pub mod Moving
