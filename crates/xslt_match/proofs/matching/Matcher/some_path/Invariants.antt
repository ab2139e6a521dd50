use Rattle.std.proofs.Common.{◌||◌, drop}
use Rattle.xp_outcome.specs.Evaluation.{done, bind}
use Rattle.xp_outcome.specs.Running.{Onto}
use Rattle.xp_typed_tree.specs.TypedView.{paths_seen}
use Rattle.xp_typed_tree.specs.WellTyped.{PathsTyped}
use Rattle.xslt_match.specs.Kept.{IsKeptFor}
use Rattle.xslt_match.specs.Matching.{some_path}
use Rattle.xslt_match.proofs.matching.Matcher.some_path.Given as goal

abbrev pub invariant-loop-number : goal.invariant-loop-number
invariant-loop-number g l = record {
  rest : Onto (some_path l.fn.self.evaluator.caller.tree.now.nodes l.fn.self.evaluator.lets.now l.fn.self.node l.fn.self.pattern.now) l.initial.reads l.initial.steps
      (bind (some_path l.fn.self.evaluator.caller.tree.now.nodes l.fn.self.evaluator.lets.now l.fn.self.node (paths_seen (drop l.number l.path-items))) (λ later. done (l.matched || later))) l.reads l.steps;
  typed : PathsTyped (paths_seen (drop l.number l.path-items));
  kept : IsKeptFor l.fn.self.evaluator.caller.tree.now l.fn.self.evaluator.lets.now l.fn.self.pattern.now l.kept;
}
