pub mod Reading
pub mod Clearing
pub mod Finishing
pub mod Replicas
