pub mod Counts
pub mod Ids
pub mod Moved
pub mod Parts
pub mod Planned
