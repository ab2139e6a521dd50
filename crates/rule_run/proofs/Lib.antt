pub mod CutReads
pub mod Findings
pub mod Keeps
pub mod Texts
pub mod RuleLets
pub mod Pairs
pub mod MatchesKept
pub mod ClassesKept
