pub mod Rule
pub mod Made
pub mod Ask
pub mod Facts
