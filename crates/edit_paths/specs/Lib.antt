pub mod PathTo
pub mod Entries
