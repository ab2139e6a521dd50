pub mod FlatWalks
pub mod NameLemmas
pub mod WalkLemmas
