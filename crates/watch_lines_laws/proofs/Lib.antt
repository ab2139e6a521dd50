pub mod Judged
pub mod OneReading
pub mod SomeReading
