pub mod MonthOf
pub mod MonthBy
