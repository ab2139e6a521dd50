pub mod KeptLemmas
pub mod UnitLemmas
pub mod OwnLetsLemmas
