-- Its start and its end.
use Rattle.std.proofs.Common.{◌∙◌, ap, [], ◌∷◌}
use Rattle.std.specs.Prelude.{codes}
use Rattle.sch_flat.specs.FlatDocument.{element}
use Rattle.sch_sizes.specs.inner.Amounts.{sized_amount}
use Rattle.sch_sizes.proofs.AmountLemmas.{sized_cap}
use Rattle.sch_sizes.proofs.sizing.SizingScale.of_pattern.Goals as goal

pub returns : goal.returns
returns c = c.of_size.ensures ∙ ap sized_amount (c.pattern_size.ensures [] c.none.ensures) ∙ sized_cap (element (codes "sch:pattern") ((codes "id", c.args.pattern.now.id) ∷ []) [])
