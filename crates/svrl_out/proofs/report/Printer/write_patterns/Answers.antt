-- Each pattern in its turn; one that was not written whole leaves a front of all.
use Rattle.std.proofs.Common.{◌≡◌, ◌<◌, [], Err, ap, ◌∙◌, slice_index_or, length, arith}
use Rattle.std.specs.List.{enumerate_from}
use Rattle.std.proofs.Math.Seq.{take_all}
use Rattle.std.proofs.lemmas.List.FromFn.{length-enumerate_from}
use Rattle.std.proofs.lemmas.Result.{err_from_is_err_and}
use Rattle.sch_compiled.specs.declared.parts.PlanPattern.{PlanPattern}
use Rattle.sch_compiled.specs.Findings.{outcome_at}
use Rattle.svrl_out.specs.Report.{pattern_lines}
use Rattle.svrl_out.proofs.ReportLemmas.{at_place, numbered_at, reported_cut, reported_next}
use Rattle.svrl_out.proofs.report.Printer.write_patterns.Goals as goal

pub write_pattern-requires-clause-outcomes : goal.write_pattern-requires-clause-outcomes
write_pattern-requires-clause-outcomes g c = λ n live.
    (let patterns = c.args.self.now.plan.now.patterns in
    let less : c.loop-p.p < length patterns = omega (arith, c.loop-p-test.true, c.loop-p.auto.p-end, c.patterns-p-end.ensures, c.requires.ready.found.patterns) in
    let is : c.index-as_slice-p.result ≡ slice_index_or patterns c.loop-p.p c.index-as_slice-p.result = rw c.as_slice.ensures at c.index-as_slice-p.is in
    rw (← at_place (λ (pattern : PlanPattern). pattern.rules) patterns c.loop-p.p c.index-as_slice-p.result [] is less) (c.requires.ready.found.outcomes c.loop-p.p n less live))

pub loop-p-preserved : goal.loop-p-preserved
loop-p-preserved g c =
    let patterns = c.args.self.now.plan.now.patterns in
    let less : c.loop-p.p < length patterns = omega (arith, c.loop-p-test.true, c.loop-p.auto.p-end, c.patterns-p-end.ensures, c.requires.ready.found.patterns) in
    let is : c.index-as_slice-p.result ≡ slice_index_or patterns c.loop-p.p c.index-as_slice-p.result = rw c.as_slice.ensures at c.index-as_slice-p.is in
    let within : c.loop-p.p < length (enumerate_from 0 patterns) = rw (length-enumerate_from 0 patterns) less in
    reported_next (pattern_lines c.args.self.now.tree.now.nodes (outcome_at c.args.self.now.found.now)) (enumerate_from 0 patterns) c.loop-p.p (c.loop-p.p, c.index-as_slice-p.result)
    (numbered_at patterns c.loop-p.p c.index-as_slice-p.result less is) within c.loop-p.invariant c.in_ok-write_pattern.ensures

pub returns-in_err-write_pattern : goal.returns-in_err-write_pattern
returns-in_err-write_pattern g c =
    let error = err_from_is_err_and c.from_residual.result c.from_residual.ensures.1 in
    let patterns = c.args.self.now.plan.now.patterns in
    let less : c.loop-p.p < length patterns = omega (arith, c.loop-p-test.true, c.loop-p.auto.p-end, c.patterns-p-end.ensures, c.requires.ready.found.patterns) in
    let is : c.index-as_slice-p.result ≡ slice_index_or patterns c.loop-p.p c.index-as_slice-p.result = rw c.as_slice.ensures at c.index-as_slice-p.is in
    let within : c.loop-p.p < length (enumerate_from 0 patterns) = rw (length-enumerate_from 0 patterns) less in
    reported_cut (pattern_lines c.args.self.now.tree.now.nodes (outcome_at c.args.self.now.found.now)) (enumerate_from 0 patterns) c.loop-p.p (c.loop-p.p, c.index-as_slice-p.result)
    c.from_residual.result (error.1 ∙ ap Err error.2) (numbered_at patterns c.loop-p.p c.index-as_slice-p.result less is) within c.loop-p.invariant c.in_err-write_pattern.ensures

pub returns : goal.returns
returns g c =
    let patterns = c.args.self.now.plan.now.patterns in
    rw (take_all c.loop-p.p (enumerate_from 0 patterns) (omega (arith, length-enumerate_from 0 patterns, c.loop-p-test.false, c.loop-p.auto.p-end, c.patterns-p-end.ensures, c.requires.ready.found.patterns))) at c.loop-p.invariant
