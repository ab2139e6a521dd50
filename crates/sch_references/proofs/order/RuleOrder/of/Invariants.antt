-- The rules of the patterns so far were added.
use Rattle.std.proofs.Common.{◌≡◌, [], filter, take}
use Rattle.std.specs.List.{flat_map}
use Rattle.sch_references.specs.inner.Firsts.{with_rules}
use Rattle.sch_references.proofs.order.RuleOrder.of.Given as goal

abbrev pub invariant-loop-pattern : goal.invariant-loop-pattern
invariant-loop-pattern l = l.rules ≡ with_rules [] (filter (λ rule. rule.is_abstract) (flat_map (λ pattern. pattern.rules) (take l.pattern-index l.pattern-items)))
