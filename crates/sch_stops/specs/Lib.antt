pub use Rattle.sch_words.specs.declared.status
pub mod Output
pub mod Watches
pub mod Refusals
pub mod Stops
pub mod EditLines
