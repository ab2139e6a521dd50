-- Nodes on an axis live.
use Rattle.std.proofs.Common.{sym, ap, ◌∙◌}
use Rattle.doc_tree.specs.Lists.{mem}
use Rattle.doc_axes.proofs.LiveNodes.{axis_live}
use Rattle.doc_axes.proofs.placed.passing_at.Goals as goal

pub at_place-requires-clause-live : goal.at_place-requires-clause-live
at_place-requires-clause-live c = λ m h.
    axis_live c.args.tree.now.nodes c.laws.ensures.ordered c.args.axis c.args.n m (sym (ap (mem m) c.in_ok-lent.ensures.nodes) ∙ h)
