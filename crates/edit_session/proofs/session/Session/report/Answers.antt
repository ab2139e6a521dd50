-- A report that shows no fault met none.
use Rattle.std.proofs.Common.{ap, subst, sym}
use Rattle.doc_tree.specs.Laws.{Ordered}
use Rattle.doc_tree.specs.Table.{Contents}
use Rattle.sch_compiled.specs.declared.plan.Plan.{Plan}
use Rattle.kept_units.specs.Running.{IsFresh, to_run}
use Rattle.edit_session.specs.Standing.{Standing, seen_by}
use Rattle.edit_session.specs.Wrote.{WroteState}
use Rattle.edit_session.proofs.FaultLemmas.{counts-whole, run-clear}
use Rattle.edit_session.proofs.session.Session.report.Goals as goal

pub write_kept-requires : goal.write_kept-requires
write_kept-requires g c =
    subst (λ (plan : Plan). IsFresh plan c.refresh.new.self.tree.nodes (seen_by c.refresh.new.self)) (sym c.in_ok-refresh.ensures.plan)
    (subst (λ (tree : Contents). IsFresh c.args.self.now.plan tree.nodes (seen_by c.refresh.new.self)) (sym c.in_ok-refresh.ensures.tree) c.in_ok-refresh.ensures.fresh)

pub returns-clause-wrote : goal.returns-clause-wrote
returns-clause-wrote g c =
    let before = c.args.self.now in
    subst (λ (tree : Contents). WroteState (g.O.Sink.log c.args.sink.now) (g.O.Sink.log c.write_kept.new.sink) before.plan tree.nodes c.write_kept.result) c.in_ok-refresh.ensures.tree
    (subst (λ (plan : Plan). WroteState (g.O.Sink.log c.args.sink.now) (g.O.Sink.log c.write_kept.new.sink) plan c.refresh.new.self.tree.nodes c.write_kept.result) c.in_ok-refresh.ensures.plan c.write_kept.ensures)

pub returns-clause-exactly : goal.returns-clause-exactly
returns-clause-exactly g c =
    let before = c.args.self.now in
    let ordered = subst Ordered (ap (λ (s : Standing). s.tree.nodes) c.self.view_is) c.laws.ensures.ordered in
    let wrote = subst (λ (tree : Contents). WroteState (g.O.Sink.log c.args.sink.now) (g.O.Sink.log c.write_kept.new.sink) before.plan tree.nodes c.write_kept.result) c.in_ok-refresh.ensures.tree
    (subst (λ (plan : Plan). WroteState (g.O.Sink.log c.args.sink.now) (g.O.Sink.log c.write_kept.new.sink) plan c.refresh.new.self.tree.nodes c.write_kept.result) c.in_ok-refresh.ensures.plan c.write_kept.ensures) in
    counts-whole before.plan before.tree.nodes (to_run before.plan before.tree.nodes (seen_by before)) c.args.steps.now c.refresh.new.steps
    (g.O.Sink.log c.args.sink.now) (g.O.Sink.log c.write_kept.new.sink) c.write_kept.result (run-clear before.plan before.tree.nodes (seen_by before) ordered) wrote c.in_ok-refresh.ensures.raised
