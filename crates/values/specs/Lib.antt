pub mod Values
pub mod Layout
pub mod Inner
