pub mod Printed
pub mod Report
pub mod Inner
pub mod Whole
