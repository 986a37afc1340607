pub mod Order
pub mod PendingForm
pub mod Form
pub mod Examined
