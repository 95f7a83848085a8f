pub mod Sizes
pub mod Walks
pub mod Changes
pub mod Sound
pub mod Searches
pub mod Moves
pub mod Meanings
