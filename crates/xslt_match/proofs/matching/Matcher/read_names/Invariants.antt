use Rattle.std.proofs.Common.{ℕ, drop}
use Rattle.xp_outcome.specs.Evaluation.{all_reading, done}
use Rattle.xp_outcome.specs.Running.{Onto}
use Rattle.xp_typed_tree.specs.TypedView.{paths_seen}
use Rattle.xp_values.specs.declared.values.EvalFault.{EvalFault}
use Rattle.xslt_match.specs.Names.{pattern_names}
use Rattle.xslt_match.proofs.matching.Matcher.read_names.Given as goal

abbrev pub invariant-loop-path : goal.invariant-loop-path
invariant-loop-path l = (count : ℕ) →
    Onto (all_reading (pattern_names l.fn.self.evaluator.caller.tree.now.nodes l.fn.self.node l.fn.self.pattern.now) (done {F = EvalFault} {A = Unit {0}} tt)) l.initial.reads count
    (all_reading (pattern_names l.fn.self.evaluator.caller.tree.now.nodes l.fn.self.node (paths_seen (drop l.path-index l.path-items))) (done tt)) l.reads count
