pub mod FilledTables
pub mod Example
