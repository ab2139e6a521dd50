pub mod OneTree
pub mod OnePattern
