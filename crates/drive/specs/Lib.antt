pub mod Exact
pub mod Lists
pub mod Demand
