pub mod ChainParts
pub mod ScopeTables
pub mod Typing
pub mod Checked
pub mod PatternStep
