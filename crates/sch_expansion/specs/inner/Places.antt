-- Where the first of some keys stands.
use Rattle.std.specs.Prelude.{ℕ, suc, List, [], ◌∷◌, Option, None, Some, map, string_bytes, if◌then◌else◌}
use Rattle.std.specs.Map.{lookup}
use Rattle.std.specs.Str.{bytes_eq}
use Rattle.sch_expansion.specs.declared.places.Places.{Places}
use Rattle.sch_model.specs.declared.raw.Param.{Param}
use Rattle.sch_model.specs.declared.raw.RawPattern.{RawPattern}
use Rattle.sch_references.specs.Extends.{is_id}

-- the place of the first key that is this name, where the first of the keys stands at a place
abbrev pub place_in : List (Option (List ℕ)) → ℕ → List ℕ → Option ℕ
place_in [] first name = None
place_in (key ∷ keys) first name = if is_id name key then Some first else place_in keys (suc first) name

-- the place that is kept for a name
abbrev pub kept_in : Places → List ℕ → Option ℕ
kept_in places name = lookup (λ key. bytes_eq name (string_bytes key)) places.entries.entries

-- the names of parameters
abbrev pub param_names : List Param → List (Option (List ℕ))
param_names params = map (λ param. Some param.name) params

-- the id of a pattern, if it is abstract
abbrev pub abstract_id : RawPattern → Option (List ℕ)
abstract_id pattern = if pattern.is_abstract then pattern.id else None
