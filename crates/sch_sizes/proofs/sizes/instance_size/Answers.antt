-- By the amounts that were found for it.
use Rattle.std.proofs.Common.{◌∙◌, refl, ap}
use Rattle.sch_expansion.specs.Filled.{filled}
use Rattle.sch_expansion.specs.Flat.{pattern_from}
use Rattle.sch_flat.specs.FlatDocument.{pattern_events}
use Rattle.sch_sizes.specs.inner.Amounts.{cap, of_events}
use Rattle.sch_sizes.specs.inner.Weights.{change_by, changed, sizes}
use Rattle.sch_sizes.specs.inner.Sums.{looked, pattern_found}
use Rattle.sch_sizes.specs.inner.Tables.{stands_amounts}
use Rattle.sch_sizes.proofs.SchemaLemmas.{sized_right}
use Rattle.sch_sizes.proofs.sizes.instance_size.Goals as goal

pub returns-in_ok-amounts-in-Ok : goal.returns-in_ok-amounts-in-Ok
returns-in_ok-amounts-in-Ok c = λ all order replacing.
    let pattern = c.args.pattern.now in
    let origin = c.args.origin.now in
    let change = change_by c.in-Ok.sizing.filled in
    let ordered = c.args.rules.now in
    c.of_pattern.ensures
    ∙ ap (λ amounts. pattern_found (changed sizes change) (looked amounts ordered) pattern origin) c.as_slice-in-Ok.ensures.value
    ∙ c.in_ok-amounts-in-Ok.ensures all order replacing pattern
    ∙ sized_right all ordered order replacing change (stands_amounts (changed sizes change) all ordered) refl pattern origin
    ∙ ap (λ params. cap (of_events (pattern_events (pattern_from all (change_by params) pattern origin)))) c.in-Ok.ensures
    ∙ ap (λ params. cap (of_events (pattern_events (pattern_from all (filled params) pattern origin)))) c.as_slice.ensures
