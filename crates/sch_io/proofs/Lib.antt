pub mod Counting
pub mod EndLemmas
pub mod Fronts
pub mod Places
pub mod ReadThrough
pub mod Rest
pub mod Writes
