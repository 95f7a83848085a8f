mod Bytes
mod WordLemmas
mod Counts
mod Sums
