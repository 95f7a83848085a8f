pub mod Indexes
pub mod Reading
pub mod Standing
pub mod Showing
pub mod Kept
