-- The lines that were laid out are those of the rule.
use Rattle.std.proofs.Common.{◌≡◌, ◌∙◌, ◌++◌, List, ℕ, [], ap, sym}
use Rattle.svrl_out.specs.Report.{fired_rule}
use Rattle.svrl_out.specs.inner.Laid.{fired_text}
use Rattle.svrl_out.proofs.LaidLemmas.{anyway, laid_by}
use Rattle.svrl_out.proofs.ReportLemmas.{at_place}
use Rattle.svrl_out.proofs.laid.put_fired_rule.Goals as goal

pub returns-clause-laid : goal.returns-clause-laid
returns-clause-laid c =
    let is = rw c.as_slice-2.ensures at c.index-as_slice-rule.is in
    let lines : c.in_ok-lines.lines.bytes.items ≡ fired_text c.args.rules.now c.args.rule = c.in_ok-lines.ensures ∙ sym (at_place fired_rule c.args.rules.now c.args.rule c.index-as_slice-rule.result [] is c.requires.there) in
    laid_by c.set.result c.args.rules.now c.args.laid.now _ c.args.rule _ c.set.ensures.set c.requires.laid lines

pub returns-clause-put : goal.returns-clause-put
returns-clause-put c =
    let is = rw c.as_slice-2.ensures at c.index-as_slice-rule.is in
    let lines : c.in_ok-lines.lines.bytes.items ≡ fired_text c.args.rules.now c.args.rule = c.in_ok-lines.ensures ∙ sym (at_place fired_rule c.args.rules.now c.args.rule c.index-as_slice-rule.result [] is c.requires.there) in
    anyway c.set.result (c.in_ok-put.ensures ∙ ap (λ (l : List ℕ). c.args.page.now.bytes.items ++ l) (c.as_slice-3.ensures ∙ lines))
