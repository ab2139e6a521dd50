pub mod Given
pub mod Sizes
