pub mod Steps
pub mod Demand3
pub mod Appendix2
pub mod RoundTrip
pub mod Files
pub mod Pieces
pub mod Dated
