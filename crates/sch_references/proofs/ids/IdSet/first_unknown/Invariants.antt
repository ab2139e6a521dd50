-- The names so far are there.
use Rattle.std.proofs.Common.{◌≡◌, drop}
use Rattle.sch_references.specs.References.{first_unknown, is_among}
use Rattle.sch_references.proofs.ids.IdSet.first_unknown.Given as goal

abbrev pub invariant-loop-name : goal.invariant-loop-name
invariant-loop-name l = first_unknown (is_among l.self) l.names ≡ first_unknown (is_among l.self) (drop l.name-index l.names)
