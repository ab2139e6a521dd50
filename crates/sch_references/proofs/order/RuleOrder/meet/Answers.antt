-- The rule at the place of the name is among those found.
use Rattle.std.proofs.Common.{sym}
use Rattle.sch_references.proofs.ReachLemmas.{adds-found-ok}
use Rattle.sch_references.proofs.order.RuleOrder.meet.Goals as goal

pub returns-in-Some : goal.returns-in-Some
returns-in-Some c =
    adds-found-ok c.add.result c.args.self.now c.args.found.now c.add.new.self c.args.name.now c.in-Some.place c.rule.result.now (sym c.in-Some.ensures.found) c.in-Some.ensures.place c.rule.ensures c.add.ensures
