pub mod Sums
pub mod Lines
pub mod Lanes
