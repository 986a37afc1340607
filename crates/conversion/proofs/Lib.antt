pub mod Converting
pub mod Numbers
