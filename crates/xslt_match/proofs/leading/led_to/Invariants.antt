use Rattle.std.proofs.Common.{◌≡◌, filter, take}
use Rattle.std.specs.List.{list_any}
use Rattle.xp_typed_tree.specs.TypedView.{pattern_step_seen}
use Rattle.xslt_match.specs.Matching.{leads}
use Rattle.xslt_match.proofs.leading.led_to.Given as goal

abbrev pub invariant-loop-k : goal.invariant-loop-k
invariant-loop-k l = l.found ≡ filter (λ k. list_any (λ m. leads l.tree.nodes (pattern_step_seen l.step) m k) l.nodes) (take l.k-index l.among)
