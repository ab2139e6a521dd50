pub use Rattle.xslt_ways.specs.Ways
pub mod Names
pub mod Positional
pub mod Matching
pub mod KnownTests
pub mod Kept
pub mod Refusing
pub mod inner
