pub mod Among
pub mod Asked
pub mod Examples
