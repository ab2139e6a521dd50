-- Whoever walks the rest has walked the whole.
use Rattle.std.proofs.Common.{◌≡◌, length}
use Rattle.std.specs.Vec.Iter.{into_iter_items, into_iter_len}
use Rattle.sch_plan.specs.Rules.{one_pattern}
use Rattle.sch_plan.specs.inner.Ids.{kept_in}
use Rattle.sch_plan.proofs.Loops.{EachLeft}
use Rattle.sch_plan.proofs.walker.Walker.all_patterns.Given as goal

abbrev pub invariant-loop-pattern : goal.invariant-loop-pattern
invariant-loop-pattern l = EachLeft (one_pattern (kept_in l.initial.self.notes) l.initial.self.count) l.initial.self.seen (into_iter_items l.initial.pattern-iterator) l.self.seen l.list (into_iter_items l.pattern-iterator)
    × (l.self ≡ record l.initial.self { seen = l.self.seen })
    × (into_iter_len l.pattern-iterator ≡ length (into_iter_items l.pattern-iterator))
