use Rattle.std.proofs.Common.{◌≡◌, ◌+◌, ◌∙◌, ap, refl, length, arith}
use Rattle.xp_typed_tree.specs.declared.expr.TypedStep.{out-TypedStep}
use Rattle.doc_axes.specs.Axes.{axis_nodes}
use Rattle.xp_outcome.specs.Recorded.{note_all}
use Rattle.xp_outcome.proofs.Runs.{ran_all_reading, ran_visits, ran_late, ran_done, ran_moved}
use Rattle.xp_meaning.specs.Reads.{axis_reads, names_tested}
use Rattle.xp_meaning.specs.Paths.{candidates}
use Rattle.xp_eval.proofs.Runs.{exit_found}
use Rattle.xp_eval.proofs.evaluator.Evaluator.look_over.Goals as goal

pub returns-in_err-read_axis : goal.returns-in_err-read_axis
returns-in_err-read_axis g c =
    exit_found _ _ c.from_residual.result c.from_residual.ensures.1 (ran_moved refl c.in_err-read_axis.ensures.unchanged refl refl (ran_late _ _ _))

pub returns-in_err-read_names : goal.returns-in_err-read_names
unfolding candidates
returns-in_err-read_names g c =
    exit_found _ _ c.from_residual-in_err-read_names.result c.from_residual-in_err-read_names.ensures.1
    (ran_all_reading (axis_reads c.args.self.now.caller.tree.now.nodes (out-TypedStep c.args.step.now).axis c.args.n)
    (ran_moved refl (c.in_err-read_names.ensures.unchanged ∙ c.in_ok-read_axis.ensures.read) refl refl (ran_late _ _ _)))

pub returns : goal.returns
unfolding candidates
returns g c =
    let T = c.args.self.now.caller.tree.now.nodes in
    let s = out-TypedStep c.args.step.now in
    let names = names_tested s.axis s.test c.args.n in
    let steps : c.tick_times.new.self ≡ c.args.steps.now + (1 + length (axis_nodes T s.axis c.args.n)) = omega (arith, c.tick.ensures, c.tick_times.ensures, c.requires) in
    ran_all_reading (axis_reads T s.axis c.args.n) (ran_all_reading names
    (ran_visits (1 + length (axis_nodes T s.axis c.args.n))
    (ran_moved refl (c.in_ok-read_names.ensures.read ∙ ap (λ held. note_all held names) c.in_ok-read_axis.ensures.read) refl steps (ran_done _ _ _))))
