-- What the words and the files decide: there is an output, and one alone, with the texts that come to be written; and so with the visits.
use Rattle.std.specs.Prelude.{◌≡◌, ℕ, List, ◌++◌}
use Rattle.sch_io.specs.Files.{Files}
use Rattle.sch_stops.specs.Output.{Output}
use Rattle.sch_loading.specs.Stages.{goes}
use Rattle.sch_cli.specs.Behaviours.{IsOutput, asked_by}
use Rattle.sch_cli.specs.Runs.{Costs}

-- words and files have an output
abbrev pub SomeOutput : Type 0
SomeOutput = (words : List (List ℕ)) (files : Files) → (output : Output) × IsOutput words files output

-- and one alone
abbrev pub OneOutput : Type 0
OneOutput = (words : List (List ℕ)) (files : Files) (output other : Output) → IsOutput words files output → IsOutput words files other → output ≡ other

-- a text that a run comes to write, over whatever files it opens, is a front of the bytes of its output
abbrev pub BegunIsFront : Type 0
BegunIsFront = (words : List (List ℕ)) (files : Files) (opened : List (List ℕ)) (text : List ℕ) (output : Output) →
    (asked_by words).begins files opened (goes text) → IsOutput words files output → (rest : List ℕ) × (output.out ≡ text ++ rest)

-- where words come to their end over files, they have visits, over the same files that they open
abbrev pub SomeCost : Type 0
SomeCost = (words : List (List ℕ)) (files : Files) (opened : List (List ℕ)) (output : Output) →
    (asked_by words).ends files opened (goes output) → (cost : ℕ) × (asked_by words).costs files opened (goes cost)

-- and one count of them alone
abbrev pub OneCost : Type 0
OneCost = (words : List (List ℕ)) (files : Files) (cost other : ℕ) → Costs words files cost → Costs words files other → cost ≡ other
