-- The kids so far were read.
use Rattle.std.proofs.Common.{◌≡◌, ◌++◌, take}
use Rattle.std.specs.List.{flat_map}
use Rattle.sch_rules.specs.RawSchema.{diagnostic_of, read_if}
use Rattle.sch_source.proofs.source.Source.push_notes.Given as goal

abbrev pub invariant-loop-kid : goal.invariant-loop-kid
invariant-loop-kid l = l.list ≡ l.initial.list ++ flat_map (read_if l.self.tree.now.nodes l.note (diagnostic_of l.self.tree.now.nodes)) (take l.kid-index l.kid-items)
