-- What an expansion writes is a whole schema: it needs no other file, and stands for the schema that was expanded.
use Rattle.std.specs.Prelude.{◌≡◌, ◌↔◌, ℕ, List, Some}
use Rattle.std.specs.FinMap.{get}
use Rattle.sch_io.specs.Files.{Files}
use Rattle.sch_cli.specs.Behaviours.{IsWhole}
use Rattle.sch_words.specs.Commands.{expand, validate}
use Rattle.sch_stops.specs.Output.{Output}

-- expanded again, it is the same
abbrev pub ExpansionsStay : Type 0
ExpansionsStay = (files others : Files) (schema name : List ℕ) (written : Output) →
    IsWhole (expand schema) files written → get others name ≡ Some written.out → IsWhole (expand name) others written

-- each document has the same report by it, under each phase
abbrev pub ExpansionsValidateAlike : Type 0
ExpansionsValidateAlike = (files others : Files) (schema name phase document : List ℕ) (written output : Output) →
    IsWhole (expand schema) files written → get others name ≡ Some written.out → get others document ≡ get files document →
    IsWhole (validate phase schema document) files output ↔ IsWhole (validate phase name document) others output

-- both, of every schema that is expanded
pub record WholeSchemasStay : Type 0 where
  pub expand : ExpansionsStay
  pub validate : ExpansionsValidateAlike
