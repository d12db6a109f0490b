pub mod Command
pub mod Refusals
pub mod Input
