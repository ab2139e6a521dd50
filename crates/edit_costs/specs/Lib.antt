pub use Rattle.sch_locality_laws.specs.Edits
pub use Rattle.sch_locality_laws.specs.Locality
pub mod SameOutcome
pub mod Units
pub mod Dirty
pub mod Costs
pub mod Evaluating
pub mod Laws
