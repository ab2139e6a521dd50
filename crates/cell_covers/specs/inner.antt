pub mod Dropping
pub mod Naming
