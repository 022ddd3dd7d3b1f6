pub mod Rates
pub mod Bands
pub mod Kept
