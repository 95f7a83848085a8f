pub mod Growth
pub mod Fnv
pub mod Chains
pub mod Keys
