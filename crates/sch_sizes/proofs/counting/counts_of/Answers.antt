-- Those of the patterns, and the lets beside them.
use Rattle.std.proofs.Common.{◌∙◌, ap, ap₂}
use Rattle.sch_references.specs.Extends.{abstract_rules}
use Rattle.sch_sizes.specs.inner.Amounts.{cap, plus, sum_all}
use Rattle.sch_sizes.specs.inner.Schemas.{concrete_found}
use Rattle.sch_sizes.specs.inner.Sums.{looked}
use Rattle.sch_sizes.specs.inner.Weights.{changed, counts}
use Rattle.sch_sizes.proofs.SchemaLemmas.{counts_right}
use Rattle.sch_sizes.proofs.counting.counts_of.Goals as goal

pub returns : goal.returns
returns c = λ order replacing.
    let schema = c.args.schema.now in
    let ordered = c.args.rules.now in
    let amounts = c.as_slice.result.now in
    let found = concrete_found (changed counts (λ text. text)) (looked amounts ordered) in
    c.plus.ensures
    ∙ ap₂ (λ a b. cap (plus a b)) c.base_counts.ensures (c.sum_over-sum.ensures ∙ ap₂ (λ all patterns. cap (sum_all (found all) patterns)) c.requires c.as_slice-2.ensures)
    ∙ counts_right schema ordered order replacing amounts (c.as_slice.ensures.value ∙ c.in_ok-amounts.ensures (abstract_rules schema) order replacing)
