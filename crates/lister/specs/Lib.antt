pub mod Printed
pub mod Input
pub mod Examples
