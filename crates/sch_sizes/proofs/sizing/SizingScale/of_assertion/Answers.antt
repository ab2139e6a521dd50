-- Its test, its subject and its message are changed.
use Rattle.std.proofs.Common.{◌∙◌, ap, map, option_map}
use Rattle.std.specs.List.{flat_map}
use Rattle.sch_expansion.specs.Flat.{assertion_with, part_with}
use Rattle.sch_flat.specs.FlatDocument.{assertion_events, part_events}
use Rattle.sch_flat.specs.FlatSize.{escapes_len}
use Rattle.sch_sizes.specs.inner.Amounts.{cap, of_events, sized_amount, sum_all}
use Rattle.sch_sizes.specs.inner.Weights.{change_by}
use Rattle.sch_sizes.proofs.AmountLemmas.{size_back, sized_cap}
use Rattle.sch_sizes.proofs.SchemaLemmas.{parts_sized}
use Rattle.sch_sizes.proofs.sizing.SizingScale.of_assertion.Goals as goal

pub returns : goal.returns
returns c =
    let change = change_by c.args.self.now.filled in
    let assertion = c.args.assertion.now in
    let held = flat_map part_events (map (part_with change) assertion.message) in
    let found = c.sum_over-held.ensures
    ∙ ap (λ parts. cap (sum_all (λ part. cap (of_events (part_events (part_with change part)))) parts)) c.as_slice.ensures ∙ parts_sized change assertion.message in
    c.of_size.ensures
    ∙ ap sized_amount (c.assertion_size.ensures (change assertion.test) (option_map change assertion.subject) held
    (c.len-test_len.ensures ∙ ap (λ t. escapes_len (change t)) c.as_str.ensures)
    c.optional_len-subject_len.ensures
    (c.size.ensures ∙ size_back c.sum_over-held.result held found))
    ∙ sized_cap (assertion_events (assertion_with change assertion))
