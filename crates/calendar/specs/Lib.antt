pub mod Calendar
pub mod Year
pub mod Examples
