pub mod StageLemmas
pub mod PartLemmas
pub mod FileLemmas
pub mod ReportLemmas
pub mod SchemaLemmas
pub mod WatchLemmas
