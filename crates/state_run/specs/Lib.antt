pub mod Outcomes
pub mod Evaluated
pub mod inner
