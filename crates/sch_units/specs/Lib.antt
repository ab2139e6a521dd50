pub mod Messages
pub mod Firing
pub mod Units
pub mod Validity
pub mod Laws
