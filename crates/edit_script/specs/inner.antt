pub mod Fields
pub mod Lines
pub mod Parts
pub mod Steps
pub mod Payload
pub mod Reader
