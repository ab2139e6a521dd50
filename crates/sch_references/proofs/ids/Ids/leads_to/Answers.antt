-- What stands before does not lead to what stands after.
use Rattle.std.proofs.Common.{sym}
use Rattle.sch_references.proofs.BeforeLemmas.{before-found}
use Rattle.sch_references.proofs.ids.Ids.leads_to.Goals as goal

pub returns-then-stands_before : goal.returns-then-stands_before
returns-then-stands_before c =
    sym (before-found c.args.self.now.rules c.args.self.now.order c.in-Some.order c.args.name.now c.args.id.now c.requires c.in-Some.is (c.stands_before.ensures c.if-stands_before.true))
