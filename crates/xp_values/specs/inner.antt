pub mod Comparing
pub mod Positions
pub mod Replacing
