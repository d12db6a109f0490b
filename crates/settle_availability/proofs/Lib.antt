pub mod Defaults
pub mod Firsts
