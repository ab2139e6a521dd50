pub mod Counted
pub mod Joining
pub mod Keeping
pub mod Setting
