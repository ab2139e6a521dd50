mod WayLemmas
mod CoverLemmas
mod AlikeLemmas
mod NameLemmas
mod UpwardLemmas
mod HeldLemmas
