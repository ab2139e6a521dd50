pub use Rattle.sch_expansion.specs.Flat
pub mod FirstFault
