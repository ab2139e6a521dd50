pub mod EveryCell
pub mod inner
