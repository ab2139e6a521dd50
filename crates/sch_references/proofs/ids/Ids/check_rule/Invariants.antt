-- Those so far were checked.
use Rattle.std.proofs.Common.{◌≡◌, take}
use Rattle.std.specs.List.{flat_map}
use Rattle.sch_references.specs.References.{item_places}
use Rattle.sch_references.specs.inner.KnownIds.{known_by}
use Rattle.sch_references.specs.inner.Onto.{onto}
use Rattle.sch_references.proofs.ids.Ids.check_rule.Given as goal

abbrev pub invariant-loop-item : goal.invariant-loop-item
invariant-loop-item l = l.first ≡ onto l.initial.first (flat_map (item_places (known_by l.self) l.self.rules l.rule) (take l.item-index l.item-items))
