pub mod Findings
pub mod Patterns
pub mod Plan
pub mod Soundness
pub mod inner
