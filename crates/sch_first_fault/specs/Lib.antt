pub mod Earlier
pub mod Ended
pub mod inner
