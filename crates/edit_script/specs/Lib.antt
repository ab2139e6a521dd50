pub mod CommandLine
pub mod Faults
pub mod Paths
pub mod Script
pub mod Undos
pub mod WellFormed
pub mod inner
