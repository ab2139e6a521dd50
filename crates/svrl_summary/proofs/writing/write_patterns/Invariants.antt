-- Those so far were written.
use Rattle.std.proofs.Common.{◌≡◌, take, Ok}
use Rattle.sch_io.specs.Wrote.{Wrote}
use Rattle.sch_io.specs.declared.error.Failed.{Failed}
use Rattle.svrl_summary.specs.Lines.{pattern_lines}
use Rattle.svrl_summary.proofs.writing.write_patterns.Given as goal

abbrev pub invariant-loop-pattern : goal.invariant-loop-pattern
invariant-loop-pattern g l =
    Wrote {T = Unit {0}} {E = Failed} (g.O.Sink.log l.initial.out) (g.O.Sink.log l.out) (pattern_lines 1 (take l.pattern-index l.patterns)) (Ok tt) × (l.number ≡ l.pattern-index)
