pub mod ListLemmas
pub mod PlaceLemmas
pub mod IdLemmas
pub mod MessageLemmas
pub mod WalkLemmas
pub mod CountLemmas
