pub mod PathsKept
pub mod LeadingLemmas
