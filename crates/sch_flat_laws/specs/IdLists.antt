-- Lists of ids are read back.
use Rattle.std.specs.Prelude.{◌≡◌, ℕ, List, IsUtf8}
use Rattle.sch_rules.specs.RawSchema.{ids_in}
use Rattle.sch_texts.specs.Ids.{spaced}

-- ids that a text lists are listed again by the text with a single space between each two
abbrev pub IdsAreReadBack : Type 0
IdsAreReadBack = (text : List ℕ) → IsUtf8 text → ids_in (spaced (ids_in text)) ≡ ids_in text
