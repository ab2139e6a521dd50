pub mod PathLemmas
pub mod CommandLemmas
pub mod RefusalLemmas
pub mod GoingOnLemmas
pub mod InTurnLemmas
