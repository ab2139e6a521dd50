pub mod Agreement
pub mod Touching
pub mod Leaving
pub mod Along
