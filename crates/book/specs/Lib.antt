pub mod Book
pub mod Check
pub mod BookK
pub mod Columns
pub mod Inner
