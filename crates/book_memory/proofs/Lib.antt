pub mod Cells
pub mod Lengths
pub mod TakenReading
pub mod Examples
pub mod MarkedHour
pub mod SameSlices
