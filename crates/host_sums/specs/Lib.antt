pub mod Sums
pub mod Example
