pub use Rattle.edit_costs.specs.Locality
pub use Rattle.unit_live_laws.specs.LiveReads
pub mod Kept
pub mod Steps
pub mod Running
pub mod Laws
pub mod Refreshing
