pub mod Tables
pub mod Search
pub mod Walks
