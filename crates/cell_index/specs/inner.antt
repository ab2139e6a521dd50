pub mod CellNumbers
pub mod Links
pub mod Chains
pub mod Sharing
pub mod Gathering
pub mod CellList
