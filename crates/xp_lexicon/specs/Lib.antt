pub mod Lexicon
pub mod Laws
pub mod inner
