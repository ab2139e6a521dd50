pub mod Events
pub mod Subtrees
