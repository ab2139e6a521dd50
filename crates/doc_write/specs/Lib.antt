pub mod TreeText
pub mod inner
