pub mod FillLemmas
pub mod FlatLemmas
pub mod LevelLemmas
pub mod PlaceLemmas
pub mod WalkLemmas
