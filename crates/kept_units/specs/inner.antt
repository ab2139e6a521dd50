pub mod Forgetting
pub mod Refreshing
