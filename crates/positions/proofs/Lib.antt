pub mod Runs
pub mod Glides
pub mod Plans
pub mod Along
