-- The patterns so far are counted.
use Rattle.std.proofs.Common.{◌≡◌, take}
use Rattle.svrl_summary.specs.Summary.{sum_of, tally_of}
use Rattle.svrl_summary.proofs.summary.whole_of.Given as goal

abbrev pub invariant-loop-pattern : goal.invariant-loop-pattern
invariant-loop-pattern l = l.whole ≡ sum_of tally_of (take l.pattern-index l.report.patterns)
