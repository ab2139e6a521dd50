use Rattle.std.proofs.Common.{◌∙◌, ap, sym, refl}
use Rattle.std.specs.Prelude.{slice_get}
use Rattle.xp_outcome.specs.Recorded.{nothing_read}
use Rattle.xp_outcome.specs.Running.{Ran}
use Rattle.xp_outcome.proofs.Runs.{ran_alike, ran_moved}
use Rattle.xp_meaning.proofs.Exits.{ran_ticked}
use Rattle.xp_meaning.specs.Evaluation.{meaning}
use Rattle.xp_meaning.specs.Results.{shown}
use Rattle.sch_units.specs.Messages.{alone}
use Rattle.sch_units.specs.Units.{unit_let}
use Rattle.rule_run.specs.Kept.{let_reads, let_shown}
use Rattle.rule_run.proofs.Keeps.{if_there, risen}
use Rattle.rule_run.proofs.letting.run_let.Goals as goal

pub returns-clause-ran : goal.returns-clause-ran
returns-clause-ran g c =
    if_there (λ e. Ran (unit_let c.args.tree.now.nodes c.args.lets.now e) (let_shown c.keep_let.result) nothing_read (let_reads c.keep_let.result) c.args.steps.now c.eval-value.new.steps)
    (slice_get c.args.plan.now.lets c.args.l) c.let_expr.result.now c.let_expr.ensures
    (c.keep_let.ensures _ _ _ (ran_ticked c.tick.ensures
    (ran_alike (ap (meaning c.args.tree.now.nodes c.args.lets.now c.let_expr.result.now) (sym (c.alone-at.ensures ∙ ap alone c.root.ensures)))
    (ran_moved (sym c.new-reads.ensures) refl refl refl c.eval-value.ensures))))

pub returns-clause-counted : goal.returns-clause-counted
returns-clause-counted g c = risen (shown c.eval-value.result) c.tick.ensures c.eval-value.ensures
