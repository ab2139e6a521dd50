pub mod AttributeLemmas
mod CommandLemmas
mod DeleteLemmas
pub mod DepthLemmas
mod InsertLemmas
pub mod MeetingLemmas
pub mod RenamingLemmas
pub mod TextLemmas
