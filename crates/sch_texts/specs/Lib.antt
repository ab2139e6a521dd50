pub mod Fronts
pub mod Ids
pub mod Names
