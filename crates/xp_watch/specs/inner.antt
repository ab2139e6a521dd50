pub mod Refreshing
pub mod Held
