pub mod Refusing
pub mod Histories
pub mod Blocks
pub mod Accepted
pub mod RunPoints
pub mod Filled
pub mod Opened
pub mod Counted
