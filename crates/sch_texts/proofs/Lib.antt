pub mod FrontLemmas
pub mod IdLemmas
