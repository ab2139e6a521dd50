-- After a number stand the greater ones.
use Rattle.doc_table.proofs.ByNumber.{order-by-number}
use Rattle.doc_table.proofs.laws.order_is_by_number.Goals as goal

pub returns : goal.returns
returns c = order-by-number
