-- The lines of the rule, then those of its findings.
use Rattle.std.proofs.Common.{All}
use Rattle.std.specs.List.{flat_map}
use Rattle.sch_compiled.specs.Findings.{IsFindingOf}
use Rattle.svrl_out.specs.Report.{placed_lines}
use Rattle.svrl_out.specs.inner.Laid.{fired_text}
use Rattle.svrl_out.proofs.LaidLemmas.{anyway, fired_and_found, put_both}
use Rattle.svrl_out.proofs.ReportLemmas.{some_holds, some_within}
use Rattle.svrl_out.proofs.report.Printer.put_fired.Goals as goal

pub put_findings-requires-clause-named : goal.put_findings-requires-clause-named
put_findings-requires-clause-named c =
    some_holds c.args.rules.now c.args.rule c.index-as_slice-rule.result (λ fired. All (IsFindingOf fired.assertions) c.args.findings.now)
    (rw c.as_slice.ensures at c.index-as_slice-rule.is) c.requires.outcome.0

pub put_findings-requires-clause-live : goal.put_findings-requires-clause-live
put_findings-requires-clause-live c = c.requires.outcome.1

pub returns-clause-put : goal.returns-clause-put
returns-clause-put c =
    let rules = c.args.rules.now in
    let T = c.args.self.now.tree.now.nodes in
    let is = rw c.as_slice.ensures at c.index-as_slice-rule.is in
    put_both c.put_findings.result _ _ _ (fired_text rules c.args.rule) (flat_map (placed_lines T c.index-as_slice-rule.result.assertions) c.args.findings.now) _
    c.in_ok-put_fired_rule.ensures.put
    (fired_and_found T rules c.args.rule c.index-as_slice-rule.result c.args.findings.now is (some_within rules c.args.rule _ c.requires.outcome.0))
    c.put_findings.ensures

pub returns-clause-laid : goal.returns-clause-laid
returns-clause-laid c = anyway c.put_findings.result c.in_ok-put_fired_rule.ensures.laid
