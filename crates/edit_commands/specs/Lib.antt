pub mod Paths
pub mod Refusals
pub mod Commands
pub mod Touched
pub mod inner
