mod ItemLemmas
mod NumberLemmas
mod ScopeLemmas
