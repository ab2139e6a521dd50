-- The rules so far are counted.
use Rattle.std.proofs.Common.{◌≡◌, take}
use Rattle.svrl_summary.specs.Summary.{sum_of, tally_of_rule}
use Rattle.svrl_summary.proofs.tally.tally_of.Given as goal

abbrev pub invariant-loop-fired : goal.invariant-loop-fired
invariant-loop-fired l = l.tally ≡ sum_of tally_of_rule (take l.fired-index l.pattern.fired)
