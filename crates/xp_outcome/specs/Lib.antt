pub mod Evaluation
pub mod Recorded
pub mod Cells
pub mod Running
pub mod Slots
pub mod Laws
pub mod inner
