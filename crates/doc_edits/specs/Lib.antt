pub mod Changes
pub mod Fitting
pub mod Keeping
pub mod Documents
pub mod inner
