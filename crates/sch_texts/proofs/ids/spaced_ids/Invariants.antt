-- The ids so far stand in the text.
use Rattle.std.proofs.Common.{◌≡◌, ◌∷◌, take, string_bytes}
use Rattle.sch_texts.specs.Ids.{spaced}
use Rattle.sch_texts.proofs.ids.spaced_ids.Given as goal

abbrev pub invariant-loop-id : goal.invariant-loop-id
invariant-loop-id l = string_bytes l.text ≡ spaced (l.first ∷ take l.id-index l.rest)
