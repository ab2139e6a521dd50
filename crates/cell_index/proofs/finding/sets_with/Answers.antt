-- The sets of one cell more are found, and at last those of all.
use Rattle.std.proofs.Common.{ℕ, []}
use Rattle.doc_tree.specs.cell.Cell.{Cell}
use Rattle.cell_index.specs.inner.Sharing.{set_has}
use Rattle.cell_index.proofs.GatheringLemmas.{finds_end, finds_more}
use Rattle.cell_index.proofs.finding.sets_with.Goals as goal

pub loop-cell-preserved : goal.loop-cell-preserved
loop-cell-preserved c = λ readers.
    finds_more (λ (y : Cell) (set : ℕ). set_has c.args.sets.now set y) c.args.cells.now c.loop-cell.cell-index c.cell-item.result [] c.loop-cell.found.items c.push_sets.new.found.items
    c.loop-cell-test.true c.cell-item.is (c.in_ok-push_sets.ensures readers) (c.loop-cell.invariant readers)

pub returns : goal.returns
returns c = λ readers.
    finds_end (λ (y : Cell) (set : ℕ). set_has c.args.sets.now set y) c.args.cells.now c.loop-cell.cell-index [] c.loop-cell.found.items c.loop-cell-test.false (c.loop-cell.invariant readers)
