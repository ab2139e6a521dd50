pub mod CellLemmas
pub mod LinkLemmas
pub mod GatheringLemmas
pub mod SharingLemmas
