-- The kids so far were read.
use Rattle.std.proofs.Common.{◌≡◌, take}
use Rattle.std.specs.List.{flat_map}
use Rattle.sch_rules.specs.RawSchema.{notes_at}
use Rattle.sch_source.proofs.source.Source.notes.Given as goal

abbrev pub invariant-loop-kid : goal.invariant-loop-kid
invariant-loop-kid l = l.list ≡ flat_map (notes_at l.self.tree.now.nodes l.group l.note) (take l.kid-index l.kid-items)
