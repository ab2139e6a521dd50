pub mod Items
pub mod Placeless
