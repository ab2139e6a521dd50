pub mod Bare
pub mod inner
