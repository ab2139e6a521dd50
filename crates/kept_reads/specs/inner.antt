pub mod Dropping
pub mod Naming
pub mod Entries
pub mod Forgetting
pub mod LetsRead
