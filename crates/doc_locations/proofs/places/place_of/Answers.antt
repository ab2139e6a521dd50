-- A place that was counted is the node's.
use Rattle.std.proofs.Common.{◌∙◌, ◌<◌, slice_index_or, arith}
use Rattle.doc_locations.proofs.LocationLemmas.{counted_place}
use Rattle.doc_locations.proofs.places.place_of.Goals as goal

pub returns-then-place-gt0 : goal.returns-then-place-gt0
returns-then-place-gt0 c = λ kind is kid.
    (let there : 0 < slice_index_or c.args.places.now c.args.n 0 = omega (arith, c.place_in-place.ensures) in
    c.place_in-place.ensures ∙ counted_place c.args.tree.now.nodes c.args.places.now c.laws.ensures.well_formed c.laws.ensures.ways_up c.requires.some c.args.n c.requires.live there kind is kid)
