pub mod LetLemmas
pub mod UnitLemmas
pub mod VerdictLemmas
