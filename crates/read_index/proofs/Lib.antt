pub mod FilingLemmas
pub mod PartingLemmas
pub mod ReadLemmas
