-- The names of what stands below the parent, and of what stands below those above it.
use Rattle.std.proofs.Common.{◌⊎◌, ◌∙◌, sym}
use Rattle.edit_commands.specs.Touched.{holds_cell}
use Rattle.kept_reads.specs.inner.Naming.{IsBelowAbove, IsBelowNames}
use Rattle.kept_reads.proofs.DroppingLemmas.{drops_none, drops_then, drops_where}
use Rattle.kept_reads.proofs.TouchedLemmas.{above_less, above_more, above_none}
use Rattle.kept_reads.proofs.kept_reads.KeptReads.+mark_names_above.Goals as goal

pub returns-in-Some : goal.returns-in-Some
returns-in-Some t c =
    let T = c.args.at.now.tree.now.nodes in
    let touched = holds_cell c.args.at.now.tree.now.nodes c.args.at.now.touched.now in
    let width = c.args.at.now.width in
    drops_where T touched width (λ k. IsBelowNames c.in-Some.parent k ⊎ IsBelowAbove T c.in-Some.parent k) (IsBelowAbove T c.args.node)
    c.args.self.now c.mark_names_above.new.self
    (above_more T c.args.node c.in-Some.parent IsBelowNames c.laws.ensures.ways_up (sym c.in-Some.ensures))
    (above_less T c.args.node c.in-Some.parent IsBelowNames c.laws.ensures.ways_up (sym c.in-Some.ensures))
    (drops_then T touched width (IsBelowNames c.in-Some.parent) (IsBelowAbove T c.in-Some.parent) c.args.self.now c.mark_names-in-Some.new.self
    c.mark_names_above.new.self
    (drops_then T touched width _ _ c.args.self.now c.mark_names.new.self c.mark_names-in-Some.new.self c.mark_names.ensures c.mark_names-in-Some.ensures)
    c.mark_names_above.ensures)

pub returns-in_default : goal.returns-in_default
returns-in_default t c =
    let T = c.args.at.now.tree.now.nodes in
    drops_none T (holds_cell c.args.at.now.tree.now.nodes c.args.at.now.touched.now) c.args.at.now.width (IsBelowAbove T c.args.node) c.args.self.now
    (above_none T c.args.node IsBelowNames c.laws.ensures.ways_up (sym c.parent.ensures ∙ c.in_default.is))
