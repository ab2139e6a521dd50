pub mod Build
pub mod Load
pub mod Piece
pub mod Scope
