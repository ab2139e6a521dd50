pub mod Labels
pub mod Summary
pub mod Lines
pub mod inner
