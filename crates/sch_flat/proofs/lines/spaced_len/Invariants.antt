-- The ids so far are counted.
use Rattle.std.proofs.Common.{◌≡◌, ◌∷◌, length, take}
use Rattle.pyx_core.specs.Escapes.{escaped}
use Rattle.sch_texts.specs.Ids.{spaced}
use Rattle.sch_flat.specs.FlatSize.{capped}
use Rattle.sch_flat.proofs.lines.spaced_len.Given as goal

abbrev pub invariant-loop-id : goal.invariant-loop-id
invariant-loop-id l = l.len ≡ capped (length (escaped (spaced (l.first ∷ take l.id-index l.rest))))
