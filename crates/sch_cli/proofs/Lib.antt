pub use Rattle.sch_commands.proofs.PairLemmas
pub use Rattle.sch_commands.proofs.ScriptCases
pub use Rattle.sch_commands.proofs.WayLemmas
pub mod RunLemmas
