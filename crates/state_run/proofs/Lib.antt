pub mod Searches
pub mod RaisedLemmas
pub mod LetLemmas
pub mod NodeLemmas
pub mod ScanningLemmas
