pub mod Ranging
pub mod Ordering
pub mod Counting
pub mod Seen
pub mod PendingForm
pub mod Reaching
pub mod Checks
pub mod Examining
