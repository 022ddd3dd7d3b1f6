pub mod Points
pub mod RunPoints
pub mod Lines
