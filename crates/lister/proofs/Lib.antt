pub mod Refill
pub mod Examples
