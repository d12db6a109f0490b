pub mod Unused
pub mod InOrder
