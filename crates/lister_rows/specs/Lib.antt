pub mod Rows
pub mod Row
pub mod Digits
pub mod Text
pub mod Examples
pub mod Appendix2
