pub mod Multiplies
