-- One cell more is added, or it is covered.
use Rattle.std.proofs.Common.{◌∙◌, ◌+◌, ap, refl, subst, sym, take}
use Rattle.std.specs.FinSet.{from_list}
use Rattle.xp_outcome.specs.Recorded.{CellSet, Recorded}
use Rattle.cell_covers.specs.inner.Dropping.{Leaves, is_covered}
use Rattle.cell_covers.proofs.SetLemmas.{all_added, none_added, one_added, one_passed}
use Rattle.cell_covers.proofs.dropping.add_uncovered.Goals as goal
use Rattle.cell_covers.proofs.dropping.add_uncovered.Goals.{else-not-covers, then-not-covers+in_ok-add}

pub loop-cell-init : goal.loop-cell-init
loop-cell-init c = record {
  cells = none_added (is_covered c.args.tree.now.nodes c.args.covering.now.shapes.numbers.items c.args.covering.now.texts.numbers.items) c.args.cells.now c.args.held.now.cells c.requires;
  names = refl;
  lets = refl;
}

pub loop-cell-preserved : goal.loop-cell-preserved
loop-cell-preserved c =
    let covered = is_covered c.args.tree.now.nodes c.args.covering.now.shapes.numbers.items c.args.covering.now.texts.numbers.items in
    let i = c.loop-cell.cell-index in
    let so_far = c.loop-cell.invariant in
    elim c.if-not-covers.branch [
      | then-not-covers+in_ok-add w ↦
          let noted = w.held-is ∙ w.in_ok-add.ensures.noted in
          record {
            cells = subst (λ (s : CellSet). Leaves covered (from_list (take (i + 1) c.args.cells.now)) s) (sym (ap (λ (r : Recorded). r.cells) noted))
                (one_added covered c.args.cells.now c.loop-cell.held.cells i c.cell-item.result c.loop-cell-test.true c.cell-item.is so_far.cells (sym c.covers.ensures ∙ w.if-not-covers.true));
            names = ap (λ (r : Recorded). r.names) noted ∙ so_far.names;
            lets = ap (λ (r : Recorded). r.lets) noted ∙ so_far.lets;
          }
      | else-not-covers w ↦ record {
        cells = subst (λ (s : CellSet). Leaves covered (from_list (take (i + 1) c.args.cells.now)) s) (sym (ap (λ (r : Recorded). r.cells) w.held-is))
            (one_passed covered c.args.cells.now c.loop-cell.held.cells i c.cell-item.result c.loop-cell-test.true c.cell-item.is so_far.cells (sym c.covers.ensures ∙ w.if-not-covers.false));
        names = ap (λ (r : Recorded). r.names) w.held-is ∙ so_far.names;
        lets = ap (λ (r : Recorded). r.lets) w.held-is ∙ so_far.lets;
      }
    ]

pub returns : goal.returns
returns c = record {
  cells = all_added (is_covered c.args.tree.now.nodes c.args.covering.now.shapes.numbers.items c.args.covering.now.texts.numbers.items) c.args.cells.now c.loop-cell.held.cells c.loop-cell.cell-index
      c.loop-cell-test.false c.loop-cell.invariant.cells;
  names = c.loop-cell.invariant.names;
  lets = c.loop-cell.invariant.lets;
}
