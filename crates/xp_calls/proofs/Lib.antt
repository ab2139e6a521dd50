pub mod Takings
pub mod Comparing
pub mod Summing
pub mod NameParts
mod Negations
pub mod JoinedTexts
pub mod Languages
pub mod FirstArgument
