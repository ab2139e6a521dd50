pub mod Walk
pub mod Phases
pub mod inner
