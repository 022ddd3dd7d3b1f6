pub mod Setting
pub mod Orders
