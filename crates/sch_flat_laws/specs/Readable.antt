-- Flat schemas as a document can say them.
use Rattle.std.specs.Prelude.{◌≡◌, true, false, List, [], ◌∷◌}
use Rattle.std.specs.List.{list_all}
use Rattle.sch_model.specs.declared.flat.FlatPattern.{FlatPattern}
use Rattle.sch_model.specs.declared.flat.FlatRule.{FlatRule}
use Rattle.sch_model.specs.declared.flat.FlatSchema.{FlatSchema}
use Rattle.sch_model.specs.declared.parts.Assertion.{Assertion}
use Rattle.sch_model.specs.declared.parts.Diagnostic.{Diagnostic}
use Rattle.sch_rules.specs.RawSchema.{ids_in}
use Rattle.sch_texts.specs.Ids.{spaced}
use Rattle.sch_flat_laws.specs.Joined.{are_joined}
use Rattle.sch_model.specs.Placeless.{is_some_part}

-- each item of a list
abbrev pub Each : {A : Type 0} → (A → Type 0) → List A → Type 0
Each holds [] = Unit {0}
Each holds (x ∷ xs) = holds x × Each holds xs

-- an assertion in whose message no text is empty and no two meet, and whose ids are those that their lists say
pub record ReadableAssertion (assertion : Assertion) : Type 0 where
  pub some : list_all is_some_part assertion.message ≡ true
  pub joined : are_joined false assertion.message ≡ true
  pub ids : ids_in (spaced assertion.diagnostics) ≡ assertion.diagnostics
  pub properties : ids_in (spaced assertion.properties) ≡ assertion.properties

abbrev pub ReadableRule : FlatRule → Type 0
ReadableRule rule = Each ReadableAssertion rule.assertions

abbrev pub ReadablePattern : FlatPattern → Type 0
ReadablePattern pattern = Each ReadableRule pattern.rules

-- a diagnostic or a property with such a message
pub record ReadableDiagnostic (diagnostic : Diagnostic) : Type 0 where
  pub some : list_all is_some_part diagnostic.message ≡ true
  pub joined : are_joined false diagnostic.message ≡ true

pub record ReadableSchema (schema : FlatSchema) : Type 0 where
  pub patterns : Each ReadablePattern schema.patterns
  pub diagnostics : Each ReadableDiagnostic schema.diagnostics
  pub properties : Each ReadableDiagnostic schema.properties
