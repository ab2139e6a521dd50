pub mod Characters
pub mod Fronts
pub mod Lists
pub mod Named
pub mod Names
pub mod Numbers
pub mod inner
