pub mod Months
pub mod Days
pub mod LastSunday
pub mod Year
pub mod Examples
