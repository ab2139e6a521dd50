pub mod TokenKinds
pub mod NodeTests
pub mod Begins
pub mod Alike
pub mod Unique
pub mod UniquePatterns
