pub mod Decimation
pub mod Inner
