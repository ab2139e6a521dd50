pub mod Amounts
pub mod Weights
pub mod Sums
pub mod Lengths
pub mod Tables
pub mod Schemas
