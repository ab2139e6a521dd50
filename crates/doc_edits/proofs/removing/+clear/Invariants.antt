use Rattle.doc_edits.proofs.ClearingLemmas.{ClearedSoFar}
use Rattle.doc_edits.proofs.removing.+clear.Given as goal

-- how many nodes live yet
abbrev pub decreases-clear : goal.decreases-clear
decreases-clear l = l.bare.now.live

abbrev pub invariant-loop-kid : goal.invariant-loop-kid
invariant-loop-kid l = ClearedSoFar l.fn.bare l.bare l.fn.n l.kid-index
