-- The names so far are kept.
use Rattle.std.proofs.Common.{◌≡◌, ℕ, List, drop}
use Rattle.std.specs.Option.{option_or}
use Rattle.sch_expansion.specs.inner.Places.{kept_in, param_names, place_in}
use Rattle.sch_expansion.proofs.filling.places_of.Given as goal

abbrev pub invariant-loop-place : goal.invariant-loop-place
invariant-loop-place l = (name : List ℕ) →
    option_or (kept_in l.places name) (place_in (param_names (drop l.place l.params)) l.place name) ≡ place_in (param_names l.params) 0 name
