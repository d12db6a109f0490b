pub mod Digits
pub mod Appending
pub mod Appendix2
pub mod Examples
