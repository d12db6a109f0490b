pub mod Table
pub mod Operands
