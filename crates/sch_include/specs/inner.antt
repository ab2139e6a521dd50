pub mod Deep
pub mod Growing
pub mod Joining
