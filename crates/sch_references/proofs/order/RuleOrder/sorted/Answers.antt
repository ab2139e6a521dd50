-- The search begins with nothing, and its end is told.
use Rattle.sch_references.proofs.SortLemmas.{idle-start}
use Rattle.sch_references.proofs.order.RuleOrder.sorted.Goals as goal

pub visit_all-requires : goal.visit_all-requires
visit_all-requires c =
    idle-start c.args.self.now (record { entered = c.empty.result; order = c.empty-2.result; below = c.new.result }) c.empty-2.ensures c.empty.ensures c.new.ensures.items
