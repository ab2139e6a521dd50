pub mod Views
pub mod Forest
pub mod Labels
pub mod Kept
pub mod Sound
pub mod KeptDecls
pub mod Parts
pub mod Growing
