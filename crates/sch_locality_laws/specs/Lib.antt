pub use Rattle.sch_units.specs.Laws
pub use Rattle.sch_units.specs.Messages
pub use Rattle.sch_units.specs.Units
pub use Rattle.sch_units.specs.Validity
pub mod Locality
pub mod Edits
