pub mod Lists
pub mod Predicates
pub mod LastSteps
pub mod Ways
