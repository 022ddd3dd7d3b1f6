pub mod Values
pub mod Phases
pub mod Layouts
