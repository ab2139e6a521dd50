-- Attributes as they are handed to the writer.
use Rattle.std.specs.Prelude.{ℕ, List, Option, Some}
use Rattle.pyx_write.specs.declared.elements.Given.{Given}
use Rattle.pyx_write.specs.declared.elements.Given.TheVariants.{Fixed, Always, IfAny}
use Rattle.pyx_write.specs.Elements.{attribute}

-- the name, and the value if there is one
abbrev pub seen : Given → List ℕ × Option (List ℕ)
seen (Fixed name value) = (name.now, Some value.now)
seen (Always name value) = (name.now, Some value.now)
seen (IfAny name value) = (name.now, value.now)

-- the line of one, if there is a value
abbrev pub given_line : Given → List ℕ
given_line given = attribute (seen given).0 (seen given).1
