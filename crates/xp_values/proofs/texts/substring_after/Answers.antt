-- A text may be cut before and after the first place of another.
use Rattle.std.proofs.Common.{sym, ◌∙◌}
use Rattle.xp_values.proofs.TextLemmas.{place_cuts}
use Rattle.xp_values.proofs.texts.substring_after.Goals as goal

pub range_from-rest-requires : goal.range_from-rest-requires
range_from-rest-requires c = λ some. (place_cuts c.args.s.now c.args.t.now c.in-Some.place c.utf8.s c.utf8.t (sym c.first_place.ensures ∙ c.in-Some.is)).before

pub range_from-requires : goal.range_from-requires
range_from-requires c = λ some.
    let cuts = place_cuts c.args.s.now c.args.t.now c.in-Some.place c.utf8.s c.utf8.t (sym c.first_place.ensures ∙ c.in-Some.is) in
    rw c.range_from-rest.ensures.value cuts.after
