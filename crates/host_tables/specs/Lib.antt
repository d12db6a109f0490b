pub mod Tables
pub mod Example
