pub mod ContentLemmas
pub mod PartLemmas
