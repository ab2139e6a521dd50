pub mod StandLemmas
pub mod TestLemmas
pub mod NameLemmas
pub mod ValueLemmas
pub mod FunctionLemmas
pub mod AxisLemmas
pub mod PathLemmas
pub mod MeaningLemmas
