pub mod Watches
pub mod Faults
pub mod inner
