pub mod Documents
pub mod Pieces
pub mod Scopes
