pub mod Book
pub mod Sound
pub mod Enter
pub mod Readings
