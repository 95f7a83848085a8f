pub mod Sizes
pub mod Classes
pub mod Need
pub mod Plans
pub mod Examples
