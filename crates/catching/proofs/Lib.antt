pub mod Operations
pub mod Flagging
pub mod Sent
pub mod Both
pub mod Deciding
pub mod Formed
