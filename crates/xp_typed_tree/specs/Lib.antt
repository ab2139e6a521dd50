pub mod TypedTree
pub mod TypedView
pub mod WellTyped
pub mod Slots
pub mod inner
