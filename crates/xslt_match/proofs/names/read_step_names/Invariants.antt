use Rattle.std.proofs.Common.{◌≡◌, ◌≤◌, ℕ, Ok, drop, length, map}
use Rattle.xp_typed_tree.specs.TypedView.{pattern_step_seen}
use Rattle.xp_outcome.specs.Evaluation.{all_reading, done}
use Rattle.xp_outcome.specs.Running.{Ran}
use Rattle.xp_values.specs.declared.values.EvalFault.{EvalFault}
use Rattle.xslt_match.specs.Names.{ancestor_over, some_anywhere, step_names}
use Rattle.xslt_match.proofs.names.read_step_names.Given as goal

abbrev pub invariant-loop-left : goal.invariant-loop-left
invariant-loop-left l = record {
  within : l.left ≤ length l.path_steps;
  node : l.at.node ≡ ancestor_over l.tree.nodes (map pattern_step_seen (drop l.left l.path_steps)) l.fn.n;
  higher : l.at.higher ≡ some_anywhere (map pattern_step_seen (drop l.left l.path_steps));
  read : (count : ℕ) → Ran {F = EvalFault} {A = Unit {0}} (all_reading (step_names l.tree.nodes l.fn.n (map pattern_step_seen (drop l.left l.path_steps))) (done tt)) (Ok tt)
      l.initial.reads l.reads count count;
}

abbrev pub decreases-loop-left : goal.decreases-loop-left
decreases-loop-left l = l.left
