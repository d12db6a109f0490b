pub mod Days
pub mod Asked
pub mod Examples
