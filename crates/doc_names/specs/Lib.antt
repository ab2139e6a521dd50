pub mod Name
pub mod Numbering
pub mod QNames
pub mod inner
