-- The patterns so far are summed up.
use Rattle.std.proofs.Common.{◌≡◌, take}
use Rattle.sch_expansion.specs.Stands.{ExtendsAreReplaced}
use Rattle.sch_references.specs.Extends.{abstract_rules}
use Rattle.sch_references.specs.Order.{IsOrderOf}
use Rattle.sch_sizes.specs.inner.Amounts.{cap, sum_all}
use Rattle.sch_sizes.specs.inner.Schemas.{concrete_meant}
use Rattle.sch_sizes.specs.inner.Weights.{sizes}
use Rattle.sch_sizes.proofs.sizes.patterns_size.Given as goal

abbrev pub invariant-loop-pattern : goal.invariant-loop-pattern
invariant-loop-pattern l = IsOrderOf (abstract_rules l.schema) l.rules → ExtendsAreReplaced (abstract_rules l.schema) →
    l.sum ≡ cap (sum_all (concrete_meant sizes l.schema) (take l.pattern-index l.pattern-items))
