pub mod Places
pub mod Planned
