pub mod Texts
pub mod Registers
pub mod Books
pub mod Lists
