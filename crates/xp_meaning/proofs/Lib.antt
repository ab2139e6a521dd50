pub mod Exits
pub mod Answers
pub mod Places
pub mod Unions
pub mod Dot
pub mod Choices
pub mod NodeSets
