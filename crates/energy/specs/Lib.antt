pub mod Lists
pub mod Number
pub mod Rounding
pub mod Energy
pub mod Answers
