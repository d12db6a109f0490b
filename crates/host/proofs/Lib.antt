-- What the proofs of several functions use, and the example.
mod FewWindows
pub mod Example
