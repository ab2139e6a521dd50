use Rattle.std.proofs.Common.{◌≡◌, ◌-◌, drop, map, length, true}
use Rattle.xp_outcome.specs.Running.{Onto}
use Rattle.xp_typed_tree.specs.TypedView.{path_seen, pattern_step_seen}
use Rattle.xp_typed_tree.specs.WellTyped.{PatternStepsTyped}
use Rattle.xslt_match.specs.Kept.{IsKeptFor}
use Rattle.xslt_match.specs.inner.OneChain.{tests}
use Rattle.xslt_match.proofs.matching.Matcher.tests.Given as goal

abbrev pub invariant-loop-step : goal.invariant-loop-step
invariant-loop-step g l = record {
  rest : Onto (tests l.fn.self.evaluator.caller.tree.now.nodes l.fn.self.evaluator.lets.now l.fn.self.node (path_seen l.fn.at.path.now).steps true) l.initial.reads l.initial.steps
      (tests l.fn.self.evaluator.caller.tree.now.nodes l.fn.self.evaluator.lets.now l.fn.self.node (map pattern_step_seen l.later) l.passed) l.reads l.steps;
  typed : PatternStepsTyped (map pattern_step_seen l.later);
  later : l.later ≡ drop (length l.all - length l.later) l.all;
  kept : IsKeptFor l.fn.self.evaluator.caller.tree.now l.fn.self.evaluator.lets.now l.fn.self.pattern.now l.kept;
}

abbrev pub decreases-loop-step : goal.decreases-loop-step
decreases-loop-step g l = length l.later
