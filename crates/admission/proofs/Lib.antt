pub mod Knots
pub mod Concurrent
pub mod Finding
pub mod Answering
pub mod Promises
