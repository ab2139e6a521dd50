pub use Rattle.history_laws.proofs.HistoryLemmas
pub use Rattle.edit_session.proofs.PairLemmas
pub mod NameLemmas
pub mod MarkLemmas
pub mod TurnLemmas
pub mod BackLemmas
pub mod UndoLemmas
