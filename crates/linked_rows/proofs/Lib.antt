pub mod Marks
pub mod Held
pub mod Kept
