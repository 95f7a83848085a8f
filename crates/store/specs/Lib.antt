pub mod Counting
pub mod Soonest
pub mod Showing
pub mod Granting
pub mod Flushing
