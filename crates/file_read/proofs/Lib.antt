pub mod Finds
pub mod Steps
pub mod Pieces
