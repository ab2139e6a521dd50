-- Its context and its subject are changed.
use Rattle.std.proofs.Common.{◌∙◌, ap, [], option_map}
use Rattle.std.specs.Prelude.{codes}
use Rattle.sch_flat.specs.FlatDocument.{element, rule_attributes}
use Rattle.sch_expansion.specs.Flat.{rule_with, text_or_empty}
use Rattle.sch_sizes.specs.inner.Amounts.{sized_amount}
use Rattle.sch_sizes.specs.inner.Weights.{change_by}
use Rattle.sch_sizes.proofs.AmountLemmas.{sized_cap}
use Rattle.sch_sizes.proofs.sizing.SizingScale.of_rule.Goals as goal

pub returns : goal.returns
returns c =
    let change = change_by c.args.self.now.filled in
    let rule = c.args.rule.now in
    c.of_size.ensures
    ∙ ap sized_amount (c.rule_size-size.ensures (change (text_or_empty rule.context)) (option_map change rule.subject) []
    c.len_or_empty-context_len.ensures c.optional_len-subject_len.ensures c.none.ensures)
    ∙ sized_cap (element (codes "sch:rule") (rule_attributes (rule_with change rule [])) [])
