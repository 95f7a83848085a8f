pub mod Words
pub mod Fields
pub mod Lines
pub mod Totals
pub mod Pages
pub mod Given
pub mod Texts
