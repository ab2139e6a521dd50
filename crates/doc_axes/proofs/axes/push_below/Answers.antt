-- No kid is an attribute.
use Rattle.doc_axes.proofs.axes.push_below.Goals as goal

pub push_each_plain-requires : goal.push_each_plain-requires
push_each_plain-requires c = λ m h. c.axes_by_cells.ensures.plain_kids c.args.n m (rw c.kids.ensures at h)
