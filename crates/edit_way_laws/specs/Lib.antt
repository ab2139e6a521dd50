pub mod Items
pub mod Staying
