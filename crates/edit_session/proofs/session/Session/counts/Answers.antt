-- A count that tells no fault met none.
use Rattle.std.proofs.Common.{ap, subst, sym}
use Rattle.doc_tree.specs.Laws.{Ordered}
use Rattle.doc_tree.specs.Table.{Contents}
use Rattle.sch_compiled.specs.declared.plan.Plan.{Plan}
use Rattle.kept_units.specs.Running.{IsFresh}
use Rattle.edit_session.specs.Standing.{Standing, seen_by}
use Rattle.edit_session.proofs.CountingLemmas.{counted-as, counted-by}
use Rattle.edit_session.proofs.session.Session.counts.Goals as goal

pub count_kept-requires : goal.count_kept-requires
count_kept-requires g c =
    subst (λ (plan : Plan). IsFresh plan c.refresh.new.self.tree.nodes (seen_by c.refresh.new.self)) (sym c.in-Ok.ensures.plan)
    (subst (λ (tree : Contents). IsFresh c.args.self.now.plan tree.nodes (seen_by c.refresh.new.self)) (sym c.in-Ok.ensures.tree) c.in-Ok.ensures.fresh)

pub returns-in-Ok-clause-counted : goal.returns-in-Ok-clause-counted
returns-in-Ok-clause-counted g c =
    counted-as c.args.self.now c.refresh.new.self c.in-Ok.ensures.plan c.in-Ok.ensures.tree c.count_kept.result c.count_kept.ensures

pub returns-in-Ok-clause-exactly : goal.returns-in-Ok-clause-exactly
returns-in-Ok-clause-exactly g c =
    let before = c.args.self.now in
    counted-by before.plan before.tree.nodes (seen_by before) c.args.steps.now c.refresh.new.steps c.count_kept.result
    (subst Ordered (ap (λ (s : Standing). s.tree.nodes) c.self.view_is) c.laws.ensures.ordered) c.in-Ok.ensures.raised
    (counted-as before c.refresh.new.self c.in-Ok.ensures.plan c.in-Ok.ensures.tree c.count_kept.result c.count_kept.ensures)
