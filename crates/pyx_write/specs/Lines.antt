-- The lines of PYX as they are written, each with its line end.
pub use Rattle.pyx_core.specs.Written.{start_line, attr_line, end_line, chars_line, pi_line, comment_line}
