-- Counts that rise by one.
use Rattle.std.proofs.Common.{ℕ, ◌≤◌, arith}
use Rattle.sch_io.specs.Counts.{Rose, one_more}

pub le-one_more : (before : ℕ) → before ≤ one_more before
unfolding one_more
le-one_more before = omega arith

pub rose-one_more : (before : ℕ) → Rose before (one_more before)
unfolding one_more
rose-one_more before = omega arith
