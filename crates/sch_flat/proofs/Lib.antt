pub mod KnownLemmas
pub mod ListLemmas
pub mod SizeLemmas
pub mod WritingLemmas
