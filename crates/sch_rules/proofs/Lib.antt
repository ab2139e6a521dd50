pub mod SplitLemmas
pub mod LeastLemmas
pub mod FirstLemmas
