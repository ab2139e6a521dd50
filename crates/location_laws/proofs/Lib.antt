pub mod Quotes
pub mod Spelled
pub mod Found
