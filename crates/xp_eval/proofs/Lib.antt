pub mod Views
pub mod Loops
pub mod Runs
pub mod Handing
pub mod DeadNodes
pub mod LoneLets
pub mod OneNode
mod OwnNode
pub mod Places
