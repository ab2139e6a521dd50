pub mod FindingsLemmas
pub mod MarkLemmas
pub mod PatternLemmas
