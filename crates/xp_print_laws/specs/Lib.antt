pub mod Offsets
pub mod PrintedTokens
pub mod Reprinted
pub mod Spelling
