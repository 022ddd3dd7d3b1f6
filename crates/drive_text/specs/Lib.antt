pub mod Lines
pub mod Numbers
pub mod Calls
pub mod Inner
