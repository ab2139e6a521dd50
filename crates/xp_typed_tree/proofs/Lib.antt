pub mod TypedViewLemmas
