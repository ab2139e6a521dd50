pub mod Reading
pub mod Laws
pub mod Agreeing
pub mod KnownReads
pub mod inner
