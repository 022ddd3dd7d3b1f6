-- Laws that the proofs here and in other crates cite.
pub mod Caps
pub mod Words
pub mod Scans
pub mod Examples
