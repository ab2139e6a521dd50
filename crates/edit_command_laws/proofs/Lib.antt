pub mod OnePiece
mod OneEdit
pub mod TreesKept
pub mod ScriptsFormed
mod SomeEdit
