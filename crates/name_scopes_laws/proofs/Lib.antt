pub mod PieceSizes
pub mod TreeSteps
pub mod DocumentTrees
pub mod PieceTrees
pub mod ScopeLemmas
pub mod RenamingScope
