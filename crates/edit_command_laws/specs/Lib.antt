pub mod OneEdit
pub mod SomeEdit
pub mod TreesKept
