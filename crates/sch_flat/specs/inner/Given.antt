-- Attributes as they are handed on: a value that is always there, one that may be, or a list of ids.
use Rattle.std.specs.Prelude.{ℕ, List, Option, Some}
use Rattle.std.specs.Option.{option_copied}
use Rattle.sch_flat.specs.declared.given.Given.{Given}
use Rattle.sch_texts.specs.Ids.{id_list}
use Rattle.sch_flat.specs.declared.given.Given.TheVariants.{Fixed, Always, IfAny, IfFixed, Ids}

-- the name, and the value if there is one
abbrev pub seen : Given → List ℕ × Option (List ℕ)
seen (Fixed name value) = (name.now, Some value.now)
seen (Always name value) = (name.now, Some value.now)
seen (IfAny name value) = (name.now, value.now)
seen (IfFixed name value) = (name.now, option_copied value)
seen (Ids name ids) = (name.now, id_list ids.now)
