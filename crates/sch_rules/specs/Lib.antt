pub mod Words
pub mod Elements
pub mod Attributes
pub mod Keys
pub mod Rules
pub mod FirstBroken
pub mod RawSchema
