pub mod Load
pub mod Turn
