-- Whoever walks the rest has walked the whole.
use Rattle.std.proofs.Common.{◌≡◌, length}
use Rattle.std.specs.Vec.Iter.{into_iter_items, into_iter_len}
use Rattle.sch_plan.specs.Rules.{one_rule}
use Rattle.sch_plan.specs.inner.Ids.{kept_in}
use Rattle.sch_plan.proofs.Loops.{EveryLeft}
use Rattle.sch_plan.proofs.walker.Walker.all_rules.Given as goal

abbrev pub invariant-loop-rule : goal.invariant-loop-rule
invariant-loop-rule l = EveryLeft (one_rule (kept_in l.initial.self.notes) l.initial.self.count l.initial.self.seen) (into_iter_items l.initial.rule-iterator) l.list (into_iter_items l.rule-iterator)
    × (l.self ≡ l.initial.self)
    × (into_iter_len l.rule-iterator ≡ length (into_iter_items l.rule-iterator))
