pub mod Doing
pub mod Held
