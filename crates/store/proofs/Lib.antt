pub mod Ranges
pub mod Lengths
pub mod Accepted
pub mod Headers
