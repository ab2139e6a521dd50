-- What is around the parent, and what is above it.
use Rattle.std.proofs.Common.{◌⊎◌, ℕ, sym}
use Rattle.edit_commands.specs.Touched.{holds_cell}
use Rattle.kept_reads.specs.inner.Dropping.{IsAround, IsAroundAbove}
use Rattle.kept_reads.proofs.DroppingLemmas.{drops_then, drops_where}
use Rattle.kept_reads.proofs.TouchedLemmas.{above_less, above_more}
use Rattle.kept_reads.proofs.kept_reads.KeptReads.+mark_above.Goals as goal

pub returns-in-Some : goal.returns-in-Some
returns-in-Some t c =
    let T = c.args.at.now.tree.now.nodes in
    let touched = holds_cell c.args.at.now.tree.now.nodes c.args.at.now.touched.now in
    let width = c.args.at.now.width in
    drops_where T touched width (λ k. IsAround c.in-Some.parent c.args.with_shapes k ⊎ IsAroundAbove T c.in-Some.parent c.args.with_shapes k)
    (IsAroundAbove T c.args.node c.args.with_shapes)
    c.args.self.now c.mark_above.new.self
    (above_more T c.args.node c.in-Some.parent (λ (m : ℕ). IsAround m c.args.with_shapes) c.laws.ensures.ways_up (sym c.in-Some.ensures))
    (above_less T c.args.node c.in-Some.parent (λ (m : ℕ). IsAround m c.args.with_shapes) c.laws.ensures.ways_up (sym c.in-Some.ensures))
    (drops_then T touched width (IsAround c.in-Some.parent c.args.with_shapes) (IsAroundAbove T c.in-Some.parent c.args.with_shapes) c.args.self.now
    c.mark_around.new.self c.mark_above.new.self
    c.mark_around.ensures c.mark_above.ensures)
