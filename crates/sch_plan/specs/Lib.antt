pub use Rattle.sch_phases.specs.Walk
pub mod Broken
pub mod Expressions
pub mod Lets
pub mod Rules
pub mod Compiled
pub mod OnePlan
pub mod inner
