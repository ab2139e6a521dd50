pub mod Stands
pub mod Filled
pub mod Flat
pub mod Pieces
pub mod inner
