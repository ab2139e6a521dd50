pub mod Places
pub mod Parsing
pub mod PatternReading
pub mod Stopped
