pub mod Laid
pub mod Write
