pub mod Callers
pub mod Kept
pub mod Laying
pub mod Sweeps
pub mod Shown
