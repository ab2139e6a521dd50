pub use Rattle.xslt_match.specs.Matching
pub mod Locality
