use Rattle.std.proofs.Common.{ap, ◌∙◌, Some, drop, ◌+◌, [], ◌∷◌}
use Rattle.std.specs.Option.{option_or}
use Rattle.sch_expansion.specs.inner.Places.{kept_in, param_names, place_in}
use Rattle.sch_expansion.proofs.PlaceLemmas.{next-place, all-places}
use Rattle.sch_expansion.proofs.filling.places_of.Goals as goal

pub loop-place-init : goal.loop-place-init
loop-place-init c = λ name. ap (λ o. option_or o (place_in (param_names c.args.params.now) 0 name)) (c.new-places.ensures name)

pub loop-place-preserved : goal.loop-place-preserved
loop-place-preserved c = λ name.
    ap (λ o. option_or o (place_in (param_names (drop (c.loop-place.place + 1) c.args.params.now)) (c.loop-place.place + 1) name)) (c.in_ok-add.ensures name)
    ∙ ap (λ t. option_or (option_or (kept_in c.loop-place.places name) (place_in (Some t ∷ []) c.loop-place.place name)) (place_in (param_names (drop (c.loop-place.place + 1) c.args.params.now)) (c.loop-place.place + 1) name)) c.as_str.ensures
    ∙ next-place (λ param. Some param.name) c.args.params.now c.loop-place.place c.index-params-place.result (kept_in c.loop-place.places name) name c.loop-place-test.true c.index-params-place.is
    ∙ c.loop-place.invariant name

pub returns : goal.returns
returns c = λ name.
    all-places (λ param. Some param.name) c.args.params.now c.loop-place.place (kept_in c.loop-place.places name) name c.loop-place-test.false
    ∙ c.loop-place.invariant name
