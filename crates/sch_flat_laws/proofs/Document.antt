pub mod CountLemmas
pub mod ExpansionLemmas
pub mod FlatNestingLemmas
pub mod IdLemmas
pub mod JoinedLemmas
pub mod NameLemmas
pub mod NestingLemmas
