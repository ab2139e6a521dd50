mod SameLemmas
pub mod CleanLemmas
mod BeforeLemmas
pub mod UnitLemmas
pub mod RaisedLemmas
pub mod LetLemmas
