pub mod Rows
pub mod Orders
pub mod Rosters
pub mod Admissions
pub mod Showing
