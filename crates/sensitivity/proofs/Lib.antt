pub mod Apart
pub mod Sums
pub mod Theorem
pub mod Inputs
pub mod Instance
