use Rattle.std.proofs.Common.{◌≡◌, drop}
use Rattle.xp_typed_tree.specs.TypedView.{typed_seen}
use Rattle.xslt_match.specs.Positional.{some_positional}
use Rattle.xslt_match.proofs.positional.some_positional.Given as goal

abbrev pub invariant-loop-predicate : goal.invariant-loop-predicate
invariant-loop-predicate l = some_positional (typed_seen l.predicates) ≡ some_positional (typed_seen (drop l.predicate-index l.predicates))
