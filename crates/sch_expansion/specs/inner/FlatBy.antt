-- Patterns without abstract parts, by the abstract rules and the patterns of their schema.
use Rattle.std.specs.Prelude.{ℕ, List, Option, None, Some}
use Rattle.sch_model.specs.declared.flat.FlatPattern.{FlatPattern}
use Rattle.sch_model.specs.declared.raw.RawPattern.{RawPattern}
use Rattle.sch_model.specs.declared.raw.RawRule.{RawRule}
use Rattle.sch_expansion.specs.Flat.{instance_of, pattern_among, pattern_from}

-- a pattern by what it is an instance of
abbrev pub flat_as : List RawRule → List RawPattern → RawPattern → Option (List ℕ) → FlatPattern
flat_as rules patterns pattern None = pattern_from rules (λ text. text) pattern pattern
flat_as rules patterns pattern (Some name) = instance_of rules pattern (pattern_among patterns name)

abbrev pub flat_by : List RawRule → List RawPattern → RawPattern → FlatPattern
flat_by rules patterns pattern = flat_as rules patterns pattern pattern.is_a
