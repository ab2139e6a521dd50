pub mod Answers
pub mod Candidates
pub mod OwnNode
pub mod Reaching
pub mod Wants
pub mod Places
