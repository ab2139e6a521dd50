use Rattle.std.proofs.Common.{◌∙◌, ap, sym, false}
use Rattle.doc_tree.specs.Walks.{ancestors}
use Rattle.xp_outcome.specs.Evaluation.{done}
use Rattle.xp_outcome.proofs.Runs.{ran_alike, ran_bind, ran_done, ran_stop}
use Rattle.xp_meaning.proofs.Exits.{exit_alloc}
use Rattle.xp_meaning.specs.Language.{in_language, language_along, or_else}
use Rattle.xp_calls.proofs.Languages.{language_first, language_at, language_alone}
use Rattle.xp_calls.proofs.language.+in_language.Goals as goal

pub returns-in_err-truth : goal.returns-in_err-truth
returns-in_err-truth t c = λ count.
    exit_alloc _ c.from_residual.result c.from_residual.ensures.1
    (ran_alike (language_first c.args.tree.now.nodes c.args.wanted.now c.args.n) (ran_stop _ _ (c.in_err-truth.ensures count)))

pub returns-in-Some : goal.returns-in-Some
returns-in-Some t c = λ count.
    let rest = language_along c.args.tree.now.nodes c.args.wanted.now (ancestors c.args.tree.now.nodes c.args.n) in
    ran_alike (language_first c.args.tree.now.nodes c.args.wanted.now c.args.n)
    (ran_bind _ (c.in_ok-truth.ensures count) (ran_alike (ap (λ o. or_else o rest) c.in-Some.is) (ran_done _ _ _)))

pub returns-in-Some-parent : goal.returns-in-Some-parent
returns-in-Some-parent t c = λ count.
    let rest = in_language c.args.tree.now.nodes c.in-Some-parent.parent c.args.wanted.now in
    ran_alike
    (language_at c.args.tree.now.nodes c.args.wanted.now c.args.n c.laws.ensures.ways_up c.in-Some-parent.parent (sym c.parent.ensures ∙ c.in-Some-parent.is))
    (ran_bind _ (c.in_ok-truth.ensures count) (ran_alike (ap (λ o. or_else o rest) c.in-None.is) (c.in_language.ensures count)))

pub returns-in-None-parent : goal.returns-in-None-parent
returns-in-None-parent t c = λ count.
    ran_alike (language_alone c.args.tree.now.nodes c.args.wanted.now c.args.n c.laws.ensures.ways_up (sym c.parent.ensures ∙ c.in-None-parent.is))
    (ran_bind _ (c.in_ok-truth.ensures count) (ran_alike (ap (λ o. or_else o (done false)) c.in-None.is) (ran_done _ _ _)))
