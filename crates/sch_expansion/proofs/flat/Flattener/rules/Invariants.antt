-- Those so far were taken.
use Rattle.std.proofs.Common.{◌≡◌, ◌++◌, drop, map, not}
use Rattle.std.specs.Prelude.{filter}
use Rattle.sch_expansion.specs.Flat.{flat_rule}
use Rattle.sch_expansion.specs.inner.Copies.{change_of}
use Rattle.sch_expansion.proofs.flat.Flattener.rules.Given as goal

abbrev pub invariant-loop-rule : goal.invariant-loop-rule
invariant-loop-rule l =
    l.flat ++ map (flat_rule l.self.expansion (change_of l.copier)) (filter (λ rule. not rule.is_abstract) (drop l.rule-index l.rules))
    ≡ map (flat_rule l.self.expansion (change_of l.copier)) (filter (λ rule. not rule.is_abstract) l.rules)
