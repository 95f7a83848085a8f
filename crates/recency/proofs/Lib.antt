pub mod Counts
pub mod Columns
pub mod Links
pub mod Steps
pub mod Known
