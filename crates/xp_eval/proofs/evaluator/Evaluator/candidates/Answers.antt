use Rattle.std.proofs.Common.{◌++◌, ◌∙◌, ap}
use Rattle.xp_meaning.proofs.Exits.{exit_memory, ran_is}
use Rattle.xp_eval.specs.inner.Candidates.{found}
use Rattle.xp_eval.proofs.evaluator.Evaluator.candidates.Goals as goal

pub returns-in_err-push_candidates : goal.returns-in_err-push_candidates
returns-in_err-push_candidates g c = exit_memory c.from_residual.result c.from_residual.ensures.1 c.in_err-push_candidates.ensures.ran

pub returns : goal.returns
returns g c =
    let ns = found c.args.self.now.caller.tree.now.nodes c.args.step.now c.args.n in
    ran_is _ (c.in_ok-push_candidates.ensures.pushed ∙ ap (λ l. l ++ ns) c.new-list.ensures) c.in_ok-push_candidates.ensures.ran
