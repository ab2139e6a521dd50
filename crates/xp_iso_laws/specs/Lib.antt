pub mod Moved
pub mod Moves
