pub mod NumberLemmas
pub mod MovingLemmas
pub mod HangingLemmas
