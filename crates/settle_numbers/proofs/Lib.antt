pub mod LinesAsNumbers
pub mod Example
