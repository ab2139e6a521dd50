use Rattle.std.proofs.Common.{length, map}
use Rattle.xp_typed_tree.specs.TypedView.{pattern_step_seen}
use Rattle.xslt_match.proofs.StepsAlong.{Going}
use Rattle.xslt_match.proofs.leading.origins.Given as goal

abbrev pub invariant-loop-last : goal.invariant-loop-last
invariant-loop-last l = Going l.tree.nodes (map pattern_step_seen l.fn.steps) (map pattern_step_seen l.rest) l.nodes l.fn.n

abbrev pub decreases-loop-last : goal.decreases-loop-last
decreases-loop-last l = length l.rest
