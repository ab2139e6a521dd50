-- A byte is found where it is among the others.
use Rattle.std.proofs.Common.{◌≡◌, ◌==◌, ℕ, List, Option, None, Some, is_some, sym, ◌∙◌}
use Rattle.std.specs.List.{list_any}
use Rattle.memchr.specs.Find.{IsFirstByte, is_byte}
use Rattle.sch_base.proofs.Lists.{none_passes}
use Rattle.pyx_core.proofs.ByteLemmas.{none_found, found_parts}
use Rattle.name_scopes.proofs.tag.holds_byte.Goals as goal

among : (byte : ℕ) (bytes : List ℕ) (found : Option ℕ) → IsFirstByte (is_byte byte) bytes found → is_some found ≡ list_any (λ b. b == byte) bytes
among byte bytes None none = sym (none_passes (λ b. b == byte) bytes (none_found byte bytes none))
among byte bytes (Some at) found = sym (found_parts byte bytes at found).0

pub returns : goal.returns
returns c = c.is_some.ensures ∙ among c.args.byte c.args.bytes.now c.memchr.result c.memchr.ensures
