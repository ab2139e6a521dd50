pub mod SearchLemmas
pub mod StateLemmas
pub mod PairLemmas
pub mod UnitLemmas
pub mod KeptLemmas
pub mod FaultLemmas
pub mod CountingLemmas
