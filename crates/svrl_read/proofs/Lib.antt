pub mod BuildingLemmas
pub mod FaultLemmas
pub mod TakingLemmas
