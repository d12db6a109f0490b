pub mod First
pub mod Step
