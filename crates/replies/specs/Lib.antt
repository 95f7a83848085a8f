pub mod Reply
pub mod Render
pub mod Growth
pub mod Fair
pub mod Reading
