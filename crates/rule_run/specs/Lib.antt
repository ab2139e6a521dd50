pub mod Kept
pub mod Classes
pub mod KeptMatches
pub mod inner
