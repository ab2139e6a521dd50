pub mod FaultLine
pub use Rattle.doc_locations.specs.LocationLaws
pub use Rattle.doc_locations.specs.Locations
pub mod Report
pub mod State
pub mod inner
