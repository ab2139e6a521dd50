pub mod LaidLemmas
pub mod PageLemmas
pub mod ReportLemmas
pub mod ToldLemmas
