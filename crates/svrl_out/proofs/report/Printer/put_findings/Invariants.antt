-- The findings so far stand on the page, and the last place is one.
use Rattle.std.proofs.Common.{◌≡◌, ◌++◌, take}
use Rattle.std.specs.Prelude.{IfSome}
use Rattle.std.specs.List.{flat_map}
use Rattle.svrl_out.specs.Report.{placed_lines}
use Rattle.svrl_out.specs.inner.Printer.{IsPlace}
use Rattle.svrl_out.proofs.report.Printer.put_findings.Given as goal

abbrev pub invariant-loop-finding : goal.invariant-loop-finding
invariant-loop-finding l = record {
  last : IfSome l.last (IsPlace l.fn.self.tree.now.nodes);
  put : l.page.bytes.items ≡ l.initial.page.bytes.items
      ++ flat_map (placed_lines l.fn.self.tree.now.nodes l.fn.assertions) (take l.finding-index l.findings);
}
