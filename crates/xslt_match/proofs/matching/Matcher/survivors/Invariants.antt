use Rattle.std.proofs.Common.{◌+◌, drop, [], ◌∷◌, if◌then◌else◌}
use Rattle.xp_outcome.specs.Evaluation.{done}
use Rattle.xp_outcome.specs.Running.{Onto}
use Rattle.xp_outcome.proofs.Outcomes.{gathering}
use Rattle.xp_typed_tree.specs.TypedView.{pattern_step_seen}
use Rattle.xslt_match.specs.Kept.{IsKeptFor}
use Rattle.xslt_match.specs.Matching.{survives, survivors}
use Rattle.xslt_match.proofs.matching.Matcher.survivors.Given as goal

abbrev pub invariant-loop-k : goal.invariant-loop-k
invariant-loop-k g l = record {
  rest : Onto (survivors l.fn.self.evaluator.caller.tree.now.nodes l.fn.self.evaluator.lets.now (pattern_step_seen l.at.step.now) l.fn.self.node l.nodes) l.initial.reads l.initial.steps
      (gathering (λ _ k. survives l.fn.self.evaluator.caller.tree.now.nodes l.fn.self.evaluator.lets.now (pattern_step_seen l.at.step.now) l.fn.self.node k) (λ _ k b. if b then k ∷ [] else []) done l.left (l.k-index + 1) (drop l.k-index l.nodes)) l.reads l.steps;
  kept : IsKeptFor l.fn.self.evaluator.caller.tree.now l.fn.self.evaluator.lets.now l.fn.self.pattern.now l.kept;
}
