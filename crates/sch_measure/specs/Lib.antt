pub mod Texts
pub mod Shelf
