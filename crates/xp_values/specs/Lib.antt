pub mod Numbers
pub mod Numerals
pub mod Outcomes
pub mod Conversions
pub mod Comparisons
pub mod Texts
pub mod FaultNames
pub mod inner
