-- Those so far were checked.
use Rattle.std.proofs.Common.{◌≡◌, take}
use Rattle.std.specs.List.{flat_map}
use Rattle.sch_references.specs.References.{rule_places}
use Rattle.sch_references.specs.inner.KnownIds.{known_by}
use Rattle.sch_references.specs.inner.Onto.{onto}
use Rattle.sch_references.proofs.ids.Ids.check_rules.Given as goal

abbrev pub invariant-loop-rule : goal.invariant-loop-rule
invariant-loop-rule l = l.first ≡ onto l.initial.first (flat_map (rule_places (known_by l.self) l.self.rules) (take l.rule-index l.rules))
