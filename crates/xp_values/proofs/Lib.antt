pub mod NumeralLemmas
pub mod TextLemmas
pub mod CompareLemmas
pub mod TextCompareLemmas
pub mod LentLemmas
pub mod PositionLemmas
pub mod SpaceLemmas
pub mod ReplaceLemmas
mod SameLemmas
