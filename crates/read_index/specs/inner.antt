pub mod Filing
pub mod Parting
