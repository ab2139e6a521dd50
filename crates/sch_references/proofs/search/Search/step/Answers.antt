-- A let and an assertion are passed.
use Rattle.std.proofs.Common.{sym, ap}
use Rattle.std.specs.List.{list_all}
use Rattle.sch_references.specs.inner.Order.{is_settled}
use Rattle.sch_references.proofs.SortLemmas.{busy-pass}
use Rattle.sch_references.proofs.search.Search.step.Goals as goal

pub returns-in-None-extended-clause-after : goal.returns-in-None-extended-clause-after
returns-in-None-extended-clause-after c =
    busy-pass c.args.rules.now c.args.self.now c.args.top c.in-Some.item.now c.in-Some.rest c.requires c.in-Some.ensures.cases.0
    (sym (ap (list_all (is_settled c.args.rules.now c.args.self.now.order)) c.in-None-extended.ensures))
