-- Those so far were added.
use Rattle.std.proofs.Common.{◌≡◌, filter, take}
use Rattle.sch_references.specs.inner.Firsts.{with_rules}
use Rattle.sch_references.proofs.order.RuleOrder.add_abstract.Given as goal

abbrev pub invariant-loop-rule : goal.invariant-loop-rule
invariant-loop-rule l = l.self ≡ with_rules l.initial.self (filter (λ rule. rule.is_abstract) (take l.rule-index l.rules))
