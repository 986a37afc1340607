pub mod Outputs
pub mod Saving
pub mod Returned
pub mod Totals
pub mod Columns
