pub mod FlatBy
pub mod Copies
pub mod Places
pub mod Walks
