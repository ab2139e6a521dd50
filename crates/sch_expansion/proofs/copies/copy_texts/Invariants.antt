-- Those so far were copied.
use Rattle.std.proofs.Common.{◌≡◌, ◌++◌, drop}
use Rattle.sch_expansion.proofs.copies.copy_texts.Given as goal

abbrev pub invariant-loop-text : goal.invariant-loop-text
invariant-loop-text l = l.its ++ drop l.text-index l.texts ≡ l.texts
