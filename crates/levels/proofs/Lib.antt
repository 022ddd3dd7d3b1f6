pub mod Laws
pub mod Stores
pub mod Fitting
