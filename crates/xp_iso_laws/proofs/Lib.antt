pub mod MoveLemmas
pub mod AxisLemmas
pub mod ValueLemmas
pub mod FunctionLemmas
pub mod PathLemmas
pub mod MeaningLemmas
