pub mod FirstFault
pub mod Lines
pub mod Places
pub mod Value
pub mod Words
pub mod inner
