pub mod Notices
pub mod Counts
pub mod Commands
pub mod Status
pub mod HostWords
