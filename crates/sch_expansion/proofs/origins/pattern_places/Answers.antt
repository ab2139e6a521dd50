use Rattle.std.proofs.Common.{ap, ◌∙◌, drop, map, ◌+◌}
use Rattle.std.specs.Option.{option_or}
use Rattle.sch_expansion.specs.inner.Places.{abstract_id, kept_in, place_in}
use Rattle.sch_expansion.proofs.PlaceLemmas.{next-place, all-places}
use Rattle.sch_expansion.proofs.origins.pattern_places.Goals as goal

pub loop-place-init : goal.loop-place-init
loop-place-init c = λ name. ap (λ o. option_or o (place_in (map abstract_id c.args.patterns.now) 0 name)) (c.new-places.ensures name)

pub loop-place-preserved : goal.loop-place-preserved
loop-place-preserved c = λ name.
    ap (λ o. option_or o (place_in (map abstract_id (drop (c.loop-place.place + 1) c.args.patterns.now)) (c.loop-place.place + 1) name)) (c.in_ok-add_pattern.ensures name)
    ∙ next-place abstract_id c.args.patterns.now c.loop-place.place c.index-patterns-place.result (kept_in c.loop-place.places name) name c.loop-place-test.true c.index-patterns-place.is
    ∙ c.loop-place.invariant name

pub returns : goal.returns
returns c = λ name.
    all-places abstract_id c.args.patterns.now c.loop-place.place (kept_in c.loop-place.places name) name c.loop-place-test.false
    ∙ c.loop-place.invariant name
