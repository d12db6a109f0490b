pub mod From
mod Turns
