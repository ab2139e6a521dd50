-- The rules so far are found.
use Rattle.std.proofs.Common.{◌≡◌, List, take}
use Rattle.sch_model.specs.declared.raw.RawRule.{RawRule}
use Rattle.sch_expansion.specs.Stands.{ExtendsAreReplaced}
use Rattle.sch_references.specs.Order.{IsOrderOf}
use Rattle.sch_sizes.specs.inner.Tables.{stands_amounts}
use Rattle.sch_sizes.proofs.table.amounts_of.Given as goal

abbrev pub invariant-loop-place : goal.invariant-loop-place
invariant-loop-place g l = (all : List RawRule) → IsOrderOf all l.rules → ExtendsAreReplaced all →
    l.amounts.items ≡ stands_amounts (g.S.Scale.weights l.scale) all (take l.place l.rules)
