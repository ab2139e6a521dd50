use Rattle.std.proofs.Common.{◌+◌, drop}
use Rattle.doc_axes.specs.Sets.{in_order}
use Rattle.xp_outcome.specs.Evaluation.{done, bind}
use Rattle.xp_outcome.specs.Running.{Onto}
use Rattle.xp_outcome.proofs.Outcomes.{gathering}
use Rattle.xp_eval.specs.inner.Candidates.{candidates_of, plain_step_from}
use Rattle.xp_eval.proofs.evaluator.Evaluator.plain_step.Given as goal

abbrev pub invariant-loop-n : goal.invariant-loop-n
invariant-loop-n g l =
    Onto (plain_step_from l.fn.self.caller.tree.now.nodes l.step l.nodes) l.initial.reads l.initial.steps
    (gathering (λ _ n. bind (candidates_of l.fn.self.caller.tree.now.nodes l.step n) (λ ms. done ms)) (λ _ _ ms. ms) (λ ms. done (in_order l.fn.self.caller.tree.now.nodes ms))
    l.selected (l.n-index + 1) (drop l.n-index l.nodes)) l.reads l.steps
