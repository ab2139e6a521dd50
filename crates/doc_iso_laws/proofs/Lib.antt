pub mod MovedLemmas
pub mod ChangesMoved
pub mod AdditionsMoved
