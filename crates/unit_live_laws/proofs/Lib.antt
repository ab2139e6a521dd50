mod MatchingLemmas
mod MessageLemmas
mod UnitLemmas
