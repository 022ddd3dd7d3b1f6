-- What the proofs here cite.
pub mod Decimals
