-- Those so far are counted.
use Rattle.std.proofs.Common.{◌≡◌, map, take}
use Rattle.svrl_summary.specs.Summary.{count_of}
use Rattle.svrl_summary.proofs.summary.count_patterns.Given as goal

abbrev pub invariant-loop-pattern : goal.invariant-loop-pattern
invariant-loop-pattern l = l.counts ≡ map count_of (take l.pattern-index l.report.patterns)
