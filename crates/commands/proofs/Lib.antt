pub mod Outcomes
pub mod Chain
pub mod Input
pub mod Terms
pub mod ByKind
