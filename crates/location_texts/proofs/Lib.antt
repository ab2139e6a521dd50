pub mod Numerals
pub mod Readings
pub mod Derivations
