pub mod Machine
pub mod PatternMachine
