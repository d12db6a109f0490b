pub mod Month
pub mod Step
