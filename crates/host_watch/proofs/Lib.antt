pub mod TotalsHeld
