mod Known
pub mod Refused
