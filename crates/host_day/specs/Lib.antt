pub mod DayAnswer
