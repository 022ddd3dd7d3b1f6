pub mod Dots
pub mod RunSums
pub mod Staged
pub mod WordParts
pub mod LevelRuns
