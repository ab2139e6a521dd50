pub mod Steps
pub mod Wants
