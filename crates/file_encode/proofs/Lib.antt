mod Encoding
pub mod Puts
