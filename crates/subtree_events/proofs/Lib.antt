pub mod SubtreeItems
pub mod FragmentNest
pub mod FragmentTests
pub mod Subtrees
