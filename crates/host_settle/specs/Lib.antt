pub mod Answers
pub mod SettleInto
