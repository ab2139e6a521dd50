-- The patterns so far were written.
use Rattle.std.proofs.Common.{take, Ok}
use Rattle.std.specs.List.{flat_map, enumerate_from}
use Rattle.sch_compiled.specs.Findings.{outcome_at}
use Rattle.svrl_out.specs.Report.{Reported, pattern_lines}
use Rattle.svrl_out.proofs.report.Printer.write_patterns.Given as goal

abbrev pub invariant-loop-p : goal.invariant-loop-p
invariant-loop-p g l = Reported (g.O.Sink.log l.initial.sink) (g.O.Sink.log l.sink)
    (flat_map (pattern_lines l.fn.self.tree.now.nodes (outcome_at l.fn.self.found.now)) (take l.p (enumerate_from 0 l.fn.self.plan.now.patterns))) (Ok tt)
