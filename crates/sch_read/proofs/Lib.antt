pub mod KeyLemmas
pub mod RuleLemmas
pub mod ToldLemmas
pub mod JudgeLemmas
pub mod KidLemmas
pub mod PlaceLemmas
pub mod DocumentLemmas
