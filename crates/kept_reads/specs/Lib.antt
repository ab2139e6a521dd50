pub mod Reads
pub mod KeptReads
pub mod Marking
pub mod Counting
pub mod Forgetting
pub mod inner
