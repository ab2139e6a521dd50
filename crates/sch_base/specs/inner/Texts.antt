-- The bytes of a text, however it is kept.
use Rattle.std.specs.Prelude.{ℕ, List, string_bytes}
use Rattle.sch_base.specs.declared.text.Kept.{Kept}
use Rattle.sch_base.specs.declared.text.Kept.TheVariants.{InPlace, Apart}

abbrev pub bytes_kept : Kept → List ℕ
bytes_kept (InPlace alloc short) = short.bytes
bytes_kept (Apart long) = string_bytes long
