-- Hints made anew change nothing that is seen.
use Rattle.std.proofs.Common.{ℕ, OnOk, subst}
use Rattle.cell_index.specs.Index.{Adds}
use Rattle.cell_index.proofs.SharingLemmas.{adds_after, err_then, ok_then, stays_after}
use Rattle.cell_index.proofs.cell_index.CellIndex.add.Goals as goal

pub returns-clause-added : goal.returns-clause-added
returns-clause-added c =
    let first = c.args.self.now in
    let new = c.put.new.self in
    subst (λ (unit : ℕ). OnOk c.put.result (Adds unit c.args.cells.now first new)) c.in_ok-unit.ensures
    (ok_then c.put.result (adds_after first c.renew.new.self new c.in_ok-unit.unit c.args.cells.now c.renew.ensures) c.put.ensures.added)

pub returns-clause-unchanged : goal.returns-clause-unchanged
returns-clause-unchanged c = err_then c.put.result (stays_after c.args.self.now c.renew.new.self c.put.new.self c.renew.ensures) c.put.ensures.unchanged
