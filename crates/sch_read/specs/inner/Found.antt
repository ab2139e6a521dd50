-- What the rules of a place give, in parts.
use Rattle.std.specs.Prelude.{ℕ, List, [], ◌∷◌, Option}
use Rattle.doc_tree.specs.Table.{Table}
use Rattle.sch_model.specs.declared.fault.SchemaFault.{SchemaFault}
use Rattle.sch_read.specs.declared.rules.Found.{Found}
use Rattle.sch_rules.specs.declared.word.Word.{Word}
use Rattle.sch_rules.specs.Rules.{ill_formed, misplaced, missing, mixed, unknown, unsupported, wrong_binding, wrong_document}

-- the fault that a broken rule is at a place
abbrev pub fault_seen : ℕ → Found → SchemaFault
fault_seen n found = record { rule = found.rule; node = n; name = found.name.now }

-- the rules on the element and its place
abbrev pub element_rules : Table → ℕ → Option Word → List (ℕ × Option (List ℕ))
element_rules T n word = (1, wrong_document T n word) ∷ (2, wrong_binding T n word) ∷ (3, unknown T n) ∷ (4, misplaced T n word) ∷ []

-- the rules on its attributes
abbrev pub attribute_rules : Table → ℕ → Option Word → List (ℕ × Option (List ℕ))
attribute_rules T n word = (5, unsupported T n word) ∷ (6, missing T n word) ∷ (7, ill_formed T n word) ∷ []

-- the rule on what a pattern holds
abbrev pub pattern_rules : Table → ℕ → Option Word → List (ℕ × Option (List ℕ))
pattern_rules T n word = (9, mixed T n word) ∷ []
