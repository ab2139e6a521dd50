pub mod NamedFiles
pub mod Sources
