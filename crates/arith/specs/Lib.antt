pub mod Floor
pub mod Limit
pub mod Lists
pub mod Sum
pub mod Tests
pub mod Words
