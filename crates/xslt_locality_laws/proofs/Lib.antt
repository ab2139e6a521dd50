pub use Rattle.xslt_match.proofs.Filters
pub mod MatchingLemmas
