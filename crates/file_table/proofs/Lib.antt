pub mod Words
pub mod Operands
pub mod Rows
