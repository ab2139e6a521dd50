-- What a rule holds (ISO/IEC 19757-3, section 5.4.5).
use Rattle.std.specs.Prelude.{ℕ, List, [], ◌∷◌}
use Rattle.sch_model.specs.declared.raw.RawItem.{RawItem}
use Rattle.sch_model.specs.declared.raw.RawItem.TheVariants as item

-- the name that an item extends
abbrev pub extended_in : RawItem → List (List ℕ)
extended_in (item.Let _) = []
extended_in (item.Assertion _) = []
extended_in (item.Extends node name) = name ∷ []
