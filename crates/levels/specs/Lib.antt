pub mod Levels
pub mod Build
