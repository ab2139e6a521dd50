-- How the run of the let ended tells its outcome, what it read and its visits.
use Rattle.std.proofs.lemmas.Result.{on_err_weaker, on_ok_weaker}
use Rattle.std.specs.Prelude.{slice_get}
use Rattle.kept_units.proofs.EvaluatingLemmas.{let_cut_so, let_ran_so, let_unrun, on_err}
use Rattle.kept_units.proofs.kept_units.KeptUnits.evaluate_let.Goals as goal

pub returns-in_err-kept-clause-cuts : goal.returns-in_err-kept-clause-cuts
returns-in_err-kept-clause-cuts g c =
    let run = c.args.run.now in
    on_err c.from_residual.result _
    (let_unrun (slice_get run.plan.now.lets c.args.l) run.caller.tree.now.nodes c.args.self.now.lets _ c.args.l c.args.self.now
    c.args.changed.now.items c.args.steps.now c.run_let.new.steps c.in_err-kept.ensures.ran)

pub returns-clause-runs : goal.returns-clause-runs
returns-clause-runs g c =
    let run = c.args.run.now in
    on_ok_weaker c.keep_let.result
    (let_ran_so (slice_get run.plan.now.lets c.args.l) run.caller.tree.now.nodes c.args.self.now.lets c.in_ok-kept.kept.value c.in_ok-kept.kept.reads
    c.args.l c.args.self.now c.keep_let.new.self
    c.args.changed.now.items c.keep_let.new.changed.items c.args.steps.now c.run_let.new.steps c.in_ok-kept.ensures.counted c.in_ok-kept.ensures.ran)
    c.keep_let.ensures.keeps

pub returns-clause-cuts : goal.returns-clause-cuts
returns-clause-cuts g c =
    let run = c.args.run.now in
    on_err_weaker c.keep_let.result
    (let_cut_so (slice_get run.plan.now.lets c.args.l) run.caller.tree.now.nodes c.args.self.now.lets c.in_ok-kept.kept.value c.in_ok-kept.kept.reads
    c.args.l c.args.self.now c.keep_let.new.self
    c.args.changed.now.items c.keep_let.new.changed.items c.args.steps.now c.run_let.new.steps c.in_ok-kept.ensures.counted c.in_ok-kept.ensures.ran)
    c.keep_let.ensures.cut
