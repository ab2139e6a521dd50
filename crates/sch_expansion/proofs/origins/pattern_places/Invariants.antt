-- The names so far are kept.
use Rattle.std.proofs.Common.{◌≡◌, ℕ, List, drop, map}
use Rattle.std.specs.Option.{option_or}
use Rattle.sch_expansion.specs.inner.Places.{abstract_id, kept_in, place_in}
use Rattle.sch_expansion.proofs.origins.pattern_places.Given as goal

abbrev pub invariant-loop-place : goal.invariant-loop-place
invariant-loop-place l = (name : List ℕ) →
    option_or (kept_in l.places name) (place_in (map abstract_id (drop l.place l.patterns)) l.place name) ≡ place_in (map abstract_id l.patterns) 0 name
