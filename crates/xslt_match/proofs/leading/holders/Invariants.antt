use Rattle.std.proofs.Common.{◌≡◌, take}
use Rattle.std.specs.List.{filter_map}
use Rattle.xp_typed_tree.specs.TypedView.{pattern_step_seen}
use Rattle.xslt_match.specs.inner.Leading.{holder}
use Rattle.xslt_match.proofs.leading.holders.Given as goal

abbrev pub invariant-loop-k : goal.invariant-loop-k
invariant-loop-k l = l.found ≡ filter_map (holder l.tree.nodes (pattern_step_seen l.step)) (take l.k-index l.nodes)
