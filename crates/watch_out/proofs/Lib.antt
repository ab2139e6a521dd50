pub mod WatchLemmas
