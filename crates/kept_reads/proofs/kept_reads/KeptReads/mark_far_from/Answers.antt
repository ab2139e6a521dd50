-- The far axes one after another.
use Rattle.edit_commands.specs.Touched.{holds_cell}
use Rattle.kept_reads.specs.inner.Naming.{IsAlongSome}
use Rattle.read_index.specs.Names.{is_far}
use Rattle.kept_reads.proofs.DroppingLemmas.{drops_then, drops_where}
use Rattle.kept_reads.proofs.NamingLemmas.{IsFar, far_back, far_here}
use Rattle.kept_reads.proofs.kept_reads.KeptReads.mark_far_from.Goals as goal

pub returns : goal.returns
returns c =
    let T = c.args.at.now.tree.now.nodes in
    let touched = holds_cell c.args.at.now.tree.now.nodes c.args.at.now.touched.now in
    let width = c.args.at.now.width in
    let first = c.args.self.now in
    drops_where T touched width (IsFar T c.args.node c.args.n) (IsAlongSome T c.args.node is_far c.args.n) first c.mark_far_along-6.new.self
    (far_here T c.args.node c.args.n) (far_back T c.args.node c.args.n)
    (drops_then T touched width _ _ first c.mark_far_along-5.new.self c.mark_far_along-6.new.self
    (drops_then T touched width _ _ first c.mark_far_along-4.new.self c.mark_far_along-5.new.self
    (drops_then T touched width _ _ first c.mark_far_along-3.new.self c.mark_far_along-4.new.self
    (drops_then T touched width _ _ first c.mark_far_along-2.new.self c.mark_far_along-3.new.self
    (drops_then T touched width _ _ first c.mark_far_along.new.self c.mark_far_along-2.new.self c.mark_far_along.ensures c.mark_far_along-2.ensures)
    c.mark_far_along-3.ensures)
    c.mark_far_along-4.ensures)
    c.mark_far_along-5.ensures)
    c.mark_far_along-6.ensures)
