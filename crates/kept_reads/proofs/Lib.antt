pub mod EntryLemmas
pub mod DroppingLemmas
pub mod TouchedLemmas
pub mod CountingLemmas
pub mod ForgettingLemmas
pub mod NamingLemmas
