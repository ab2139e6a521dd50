pub mod Deciding
pub mod EachRead
