pub mod Tree
pub mod View
pub mod PatternTree
pub mod Decimals
pub mod AxisNames
