pub mod Document
pub mod Reading
pub mod Rules
pub mod Texts
