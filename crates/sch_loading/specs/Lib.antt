pub use Rattle.sch_stops.specs.Output
pub use Rattle.sch_stops.specs.Refusals
pub use Rattle.sch_stops.specs.Stops
pub mod Stages
pub mod Documents
pub mod Loading
pub mod Reads
pub mod inner
