pub mod Fits
pub mod Kept
pub mod Widths
