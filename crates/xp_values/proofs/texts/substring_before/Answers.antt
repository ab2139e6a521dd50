-- A text may be cut before the first place of another.
use Rattle.std.proofs.Common.{sym, ◌∙◌}
use Rattle.xp_values.proofs.TextLemmas.{place_cuts}
use Rattle.xp_values.proofs.texts.substring_before.Goals as goal

pub range-requires-clause-end_boundary : goal.range-requires-clause-end_boundary
range-requires-clause-end_boundary c = (place_cuts c.args.s.now c.args.t.now c.in-Some.place c.utf8.s c.utf8.t (sym c.first_place.ensures ∙ c.in-Some.is)).before
