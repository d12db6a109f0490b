pub mod Calls
pub mod Entered
pub mod Example
