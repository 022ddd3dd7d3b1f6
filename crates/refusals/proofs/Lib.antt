pub mod Valid
pub mod Accepted
