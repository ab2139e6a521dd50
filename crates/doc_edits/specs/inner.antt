pub mod KeptContents
pub mod Removing
pub mod Copies
pub mod Grafts
pub mod Ranking
