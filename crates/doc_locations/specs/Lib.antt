pub mod LocationLaws
pub mod Locations
pub mod inner
