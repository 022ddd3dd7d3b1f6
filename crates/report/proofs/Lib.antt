-- What the proofs here cite, and the theorems.
pub mod Plays
pub mod Limits
pub mod Limited
pub mod Bytes
pub mod HandedOut
pub mod Tallies
pub mod ByLines
pub mod Theorem
