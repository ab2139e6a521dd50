pub mod Parts
pub mod Grammar
pub mod PatternGrammar
pub mod Faults
pub mod FaultNames
pub mod inner
