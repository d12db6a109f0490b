pub mod Tests
pub mod Integers
pub mod Sums
pub mod Puts
pub mod Rounding
pub mod Ranges
