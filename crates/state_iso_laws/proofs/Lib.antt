pub mod LocationLemmas
pub mod ReportLemmas
