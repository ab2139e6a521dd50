pub mod Alike
pub mod AlikeParts
pub mod Outcomes
pub mod SomePlan
