use Rattle.std.proofs.Common.{◌∙◌, ap, sym}
use Rattle.xp_outcome.proofs.Runs.{ran_alike}
use Rattle.xp_meaning.proofs.Exits.{ran_ticked}
use Rattle.xp_typed_tree.specs.TypedView.{typed_seen}
use Rattle.xp_meaning.specs.Evaluation.{meanings, all_true}
use Rattle.xp_meaning.specs.Paths.{placed}
use Rattle.xp_eval.proofs.Runs.{chosen_yes, chosen_no}
use Rattle.xslt_match.specs.Positional.{some_positional}
use Rattle.xslt_match.proofs.matching.Matcher.survives.Goals as goal

pub returns-then-some_positional-clause-ran : goal.returns-then-some_positional-clause-ran
returns-then-some_positional-clause-ran g c =
    ran_alike (chosen_yes _ _ _ (sym (c.some_positional.ensures ∙ ap (λ es. some_positional (typed_seen es)) c.deref.ensures.value) ∙ c.if-some_positional.true)) c.is_left.ensures.ran

pub returns-clause-ran : goal.returns-clause-ran
returns-clause-ran g c =
    ran_alike (chosen_no _ _ _ (sym (c.some_positional.ensures ∙ ap (λ es. some_positional (typed_seen es)) c.deref.ensures.value) ∙ c.if-some_positional.false))
    (ran_ticked c.tick.ensures
    (ran_alike (ap (λ es. all_true (meanings c.args.self.now.evaluator.caller.tree.now.nodes c.args.self.now.evaluator.lets.now (typed_seen es)) (placed c.args.self.now.node 1 1 c.args.k)) (sym c.deref-2.ensures.value)) c.all_true.ensures))
