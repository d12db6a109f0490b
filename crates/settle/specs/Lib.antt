pub mod Settle
pub mod Prepared
