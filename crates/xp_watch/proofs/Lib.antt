pub mod ReadLemmas
pub mod EditLemmas
pub mod KeptLemmas
pub mod RefreshLemmas
pub mod WatchLemmas
