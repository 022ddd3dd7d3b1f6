pub mod Points
pub mod Runs
pub mod Inner
