pub mod Names
pub mod ReadIndex
pub mod inner
