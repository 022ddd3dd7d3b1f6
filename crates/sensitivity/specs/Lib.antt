pub mod Sensitivity
