-- Rules on names are broken at live nodes alone, whose order is that of their numbers.
use Rattle.sch_references.proofs.LiveLemmas.{first-in-order}
use Rattle.sch_references.proofs.laws.first_in_order.Goals as goal

pub returns : goal.returns
returns c = first-in-order c.order_is_by_number.ensures
