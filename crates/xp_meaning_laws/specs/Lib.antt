pub mod Slots
pub mod Types
pub mod Agreeing
pub mod KnownReads
pub mod Bounds
pub mod Current
