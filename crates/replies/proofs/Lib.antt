mod Samples
pub mod Writes
pub mod Lengths
pub mod Fits
pub mod Callers
pub mod ReadingBack
