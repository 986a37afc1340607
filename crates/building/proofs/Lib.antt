pub mod Toggling
pub mod Counting
pub mod Firsts
pub mod Assembling
pub mod Judging
pub mod Replicas
