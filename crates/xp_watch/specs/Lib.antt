pub mod Watched
pub mod Costs
pub mod Kept
pub mod Watching
pub mod Laws
pub mod inner
