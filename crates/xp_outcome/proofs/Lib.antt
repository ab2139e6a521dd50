pub mod Sets
pub mod SetTests
pub mod SlotLemmas
pub mod Outcomes
pub mod Runs
