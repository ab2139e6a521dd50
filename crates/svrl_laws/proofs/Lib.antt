pub mod Items
pub mod Made
pub mod Nesting
pub mod Places
pub mod PlanLines
pub mod Reading
pub mod Texts
