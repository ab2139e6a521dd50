pub mod Begun
pub mod Cutting
pub mod Plain
pub mod ReadAll
pub mod ReaderFields
pub mod Standing
