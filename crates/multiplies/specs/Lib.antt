pub mod Multiplies
pub mod Inner
