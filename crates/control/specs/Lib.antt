pub mod Rate
pub mod Moves
pub mod Orders
pub mod Valid
pub mod Inner
