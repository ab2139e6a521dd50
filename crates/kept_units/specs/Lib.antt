pub use Rattle.kept_state.specs.Kept
pub use Rattle.kept_state.specs.Laws as KeptLaws
pub use Rattle.kept_state.specs.Running
pub use Rattle.kept_state.specs.Steps
pub use Rattle.kept_state.specs.Locality
pub use Rattle.kept_state.specs.LiveReads
pub use Rattle.edit_costs.specs.Costs
pub use Rattle.edit_costs.specs.Dirty
pub use Rattle.edit_costs.specs.Units
pub use Rattle.state_run.specs.Evaluated
pub use Rattle.state_run.specs.Outcomes
pub use Rattle.state_run.specs.declared.scanning
pub mod Keeping
pub mod inner
