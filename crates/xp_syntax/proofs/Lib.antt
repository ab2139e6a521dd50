pub mod Places
pub mod OneSpelling
pub mod WrittenOut
pub mod Abbreviations
pub mod Judged
