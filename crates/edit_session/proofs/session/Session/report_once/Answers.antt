-- A report that shows no fault met none.
use Rattle.std.proofs.Common.{ap, subst}
use Rattle.doc_tree.specs.Laws.{Ordered}
use Rattle.kept_units.specs.Costs.{Raised}
use Rattle.kept_units.specs.Units.{units_of}
use Rattle.edit_session.specs.Standing.{Standing}
use Rattle.edit_session.specs.Wrote.{WroteState}
use Rattle.edit_session.proofs.FaultLemmas.{counts-whole, units-clear}
use Rattle.edit_session.proofs.StateLemmas.{memory-wrote}
use Rattle.edit_session.proofs.session.Session.report_once.Goals as goal

pub returns-clause-wrote : goal.returns-clause-wrote
returns-clause-wrote g c =
    subst (λ (s : Standing). WroteState (g.O.Sink.log c.args.sink.now) (g.O.Sink.log c.write_outcomes-written.new.out) s.plan s.tree.nodes c.write_outcomes-written.result) c.self.view_is
    c.write_outcomes-written.ensures

pub returns-clause-exactly : goal.returns-clause-exactly
returns-clause-exactly g c =
    let before = c.args.self.now in
    let ordered = subst Ordered (ap (λ (s : Standing). s.tree.nodes) c.self.view_is) c.laws.ensures.ordered in
    let wrote = subst (λ (s : Standing). WroteState (g.O.Sink.log c.args.sink.now) (g.O.Sink.log c.write_outcomes-written.new.out) s.plan s.tree.nodes c.write_outcomes-written.result) c.self.view_is
    c.write_outcomes-written.ensures in
    let raised = subst (λ (s : Standing). Raised s.plan s.tree.nodes (units_of s.plan s.tree.nodes) c.args.steps.now c.evaluate.new.steps) c.self.view_is c.in_ok-all.ensures.raised in
    counts-whole before.plan before.tree.nodes (units_of before.plan before.tree.nodes) c.args.steps.now c.evaluate.new.steps
    (g.O.Sink.log c.args.sink.now) (g.O.Sink.log c.write_outcomes-written.new.out) c.write_outcomes-written.result (units-clear before.plan before.tree.nodes ordered) wrote raised

pub returns-in_err-all-clause-wrote : goal.returns-in_err-all-clause-wrote
returns-in_err-all-clause-wrote g c =
    memory-wrote (g.O.Sink.log c.args.sink.now) c.args.self.now.plan c.args.self.now.tree.nodes c.from_residual.result c.from_residual.ensures.1
