-- Schemas in whose messages no two texts meet.
use Rattle.std.specs.Prelude.{◌≡◌, ℕ, Bool, true, false, not, ◌&&◌, List, [], ◌∷◌}
use Rattle.std.specs.List.{list_all}
use Rattle.doc_tree.specs.Table.{Table}
use Rattle.sch_model.specs.declared.flat.FlatPattern.{FlatPattern}
use Rattle.sch_model.specs.declared.flat.FlatRule.{FlatRule}
use Rattle.sch_model.specs.declared.flat.FlatSchema.{FlatSchema}
use Rattle.sch_model.specs.declared.parts.Diagnostic.{Diagnostic}
use Rattle.sch_model.specs.declared.parts.Part.{Part}
use Rattle.sch_model.specs.declared.parts.Part.TheVariants.{Chars, ValueOf, Name}
use Rattle.sch_rules.specs.RawSchema.{message_of}
use Rattle.sch_flat.specs.FlatDocument.{flat_events}
use Rattle.sch_flat_laws.specs.FlatText.{are_apart}

-- whether no two texts meet among parts, where one stands in front of them or none does
abbrev pub are_joined : Bool → List Part → Bool
are_joined after_text [] = true
are_joined after_text (Chars text ∷ parts) = not after_text && are_joined true parts
are_joined after_text (ValueOf node select ∷ parts) = are_joined false parts
are_joined after_text (Name node path ∷ parts) = are_joined false parts

abbrev pub is_joined_rule : FlatRule → Bool
is_joined_rule rule = list_all (λ assertion. are_joined false assertion.message) rule.assertions

abbrev pub is_joined_pattern : FlatPattern → Bool
is_joined_pattern pattern = list_all is_joined_rule pattern.rules

abbrev pub are_joined_notes : List Diagnostic → Bool
are_joined_notes notes = list_all (λ note. are_joined false note.message) notes

abbrev pub is_joined : FlatSchema → Bool
is_joined schema =
    list_all is_joined_pattern schema.patterns && (are_joined_notes schema.diagnostics && are_joined_notes schema.properties)

-- no two texts meet in the messages that a document says, nor in the document of a schema with such messages
pub record TextsStandApart : Type 0 where
  pub read : (T : Table) (n : ℕ) → are_joined false (message_of T n) ≡ true
  pub written : (schema : FlatSchema) → is_joined schema ≡ true → are_apart false (flat_events schema) ≡ true
