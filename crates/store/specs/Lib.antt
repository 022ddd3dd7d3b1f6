pub mod Sizes
pub mod Store
pub mod Check
