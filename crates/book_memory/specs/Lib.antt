pub mod Meter
pub mod Examples
pub mod Lent
