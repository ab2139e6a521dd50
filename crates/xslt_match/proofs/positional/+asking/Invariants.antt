use Rattle.std.proofs.Common.{◌≡◌, drop}
use Rattle.xp_typed_tree.specs.TypedView.{typed_seen, compared_list_seen, combined_list_seen}
use Rattle.xslt_match.specs.Positional.{some_asks, comparands_ask, combinands_ask}
use Rattle.xslt_match.proofs.positional.+asking.Given as goal

abbrev pub invariant-some_asks-loop-expr : goal.invariant-some_asks-loop-expr
invariant-some_asks-loop-expr l = some_asks (typed_seen l.exprs) ≡ some_asks (typed_seen (drop l.expr-index l.exprs))

abbrev pub invariant-comparands_ask-loop-operand : goal.invariant-comparands_ask-loop-operand
invariant-comparands_ask-loop-operand l = comparands_ask (compared_list_seen l.rest) ≡ comparands_ask (compared_list_seen (drop l.operand-index l.rest))

abbrev pub invariant-combinands_ask-loop-operand : goal.invariant-combinands_ask-loop-operand
invariant-combinands_ask-loop-operand l = combinands_ask (combined_list_seen l.rest) ≡ combinands_ask (combined_list_seen (drop l.operand-index l.rest))
