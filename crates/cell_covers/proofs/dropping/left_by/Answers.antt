-- What is added are the cells that aren't covered, and the names.
use Rattle.std.proofs.Common.{◌∙◌, subst, sym}
use Rattle.xp_outcome.specs.Recorded.{CellSet, Recorded}
use Rattle.cover_laws.specs.Covering.{HeldAlike}
use Rattle.cell_covers.specs.Bare.{IsBare}
use Rattle.cell_covers.specs.inner.Dropping.{Leaves, is_covered}
use Rattle.cell_covers.proofs.HeldLemmas.{held-alike, held-bare}
use Rattle.cell_covers.proofs.dropping.left_by.Goals as goal

pub returns-clause-alike : goal.returns-clause-alike
returns-clause-alike c =
    let T = c.args.tree.now.nodes in
    let shapes = c.args.covering.now.shapes.numbers.items in
    let texts = c.args.covering.now.texts.numbers.items in
    subst (λ (r : Recorded). HeldAlike T r c.args.reads.now) (sym c.in_ok-add_names.ensures)
    (held-alike T c.laws.ensures.ways_up c.args.reads.now c.names.result.now c.names.ensures shapes texts c.requires c.add_uncovered.new.held
    (subst (λ (s : CellSet). Leaves (is_covered T shapes texts) s c.add_uncovered.new.held.cells) c.cells.ensures c.in_ok-add_uncovered.ensures.cells)
    (c.in_ok-add_uncovered.ensures.names ∙ c.in_ok-held.ensures.names)
    (c.in_ok-add_uncovered.ensures.lets ∙ c.in_ok-held.ensures.lets ∙ c.lets.ensures))

pub returns-clause-bare : goal.returns-clause-bare
returns-clause-bare c =
    let T = c.args.tree.now.nodes in
    let shapes = c.args.covering.now.shapes.numbers.items in
    let texts = c.args.covering.now.texts.numbers.items in
    subst (λ (r : Recorded). IsBare T r.cells) (sym c.in_ok-add_names.ensures)
    (held-bare T c.laws.ensures.ways_up c.args.reads.now c.names.result.now c.names.ensures shapes texts c.requires c.add_uncovered.new.held
    (subst (λ (s : CellSet). Leaves (is_covered T shapes texts) s c.add_uncovered.new.held.cells) c.cells.ensures c.in_ok-add_uncovered.ensures.cells)
    (c.in_ok-add_uncovered.ensures.names ∙ c.in_ok-held.ensures.names)
    (c.in_ok-add_uncovered.ensures.lets ∙ c.in_ok-held.ensures.lets ∙ c.lets.ensures))
