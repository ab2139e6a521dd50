pub mod Alongside
pub mod PieceLines
pub mod Settling
pub mod DeletionUndone
pub mod InsertionUndone
pub mod ContentBack
pub mod AttributesBack
pub mod MergeUndone
