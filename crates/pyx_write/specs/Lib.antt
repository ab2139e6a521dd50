pub use Rattle.pyx_core.specs.Escapes
pub use Rattle.pyx_core.specs.Written
pub mod Elements
pub mod Lines
pub mod inner
