pub mod EventLemmas
pub mod PlaceLemmas
pub mod TreeLemmas
