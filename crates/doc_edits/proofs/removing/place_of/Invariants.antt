use Rattle.std.proofs.Common.{◌≡◌, take}
use Rattle.doc_table.specs.Lists.{occurs}
use Rattle.doc_edits.proofs.removing.place_of.Given as goal

-- the number stands nowhere before the place
abbrev pub invariant-loop-place : goal.invariant-loop-place
invariant-loop-place l = occurs l.n (take l.place l.list) ≡ 0
