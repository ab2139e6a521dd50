pub mod Decided
pub mod Undone
pub mod WholeSchemas
