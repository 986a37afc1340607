pub mod Replicas
pub mod Steps
pub mod Theorems
