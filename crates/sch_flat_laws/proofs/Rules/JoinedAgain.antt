-- No two texts meet in the messages of what is read.
use Rattle.std.proofs.Common.{◌≡◌, true, false, List, [], ◌∷◌, refl}
use Rattle.std.specs.List.{list_all}
use Rattle.std.proofs.lemmas.Bool.{and_from}
use Rattle.sch_model.specs.declared.flat.FlatPattern.{FlatPattern}
use Rattle.sch_model.specs.declared.flat.FlatRule.{FlatRule}
use Rattle.sch_model.specs.declared.flat.FlatSchema.{FlatSchema}
use Rattle.sch_model.specs.declared.parts.Assertion.{Assertion}
use Rattle.sch_model.specs.declared.parts.Diagnostic.{Diagnostic}
use Rattle.sch_flat_laws.specs.Joined.{are_joined, are_joined_notes, is_joined, is_joined_pattern, is_joined_rule}
use Rattle.sch_flat_laws.specs.Readable.{Each, ReadableAssertion, ReadableDiagnostic, ReadablePattern, ReadableRule, ReadableSchema}

joined-assertions : (assertions : List Assertion) → Each ReadableAssertion assertions → list_all (λ (a : Assertion). are_joined false a.message) assertions ≡ true
joined-assertions [] h = refl
joined-assertions (a ∷ assertions) h = and_from (are_joined false a.message) _ h.0.joined (joined-assertions assertions h.1)

joined-rules : (rules : List FlatRule) → Each ReadableRule rules → list_all is_joined_rule rules ≡ true
joined-rules [] h = refl
joined-rules (rule ∷ rules) h = and_from (is_joined_rule rule) _ (joined-assertions rule.assertions h.0) (joined-rules rules h.1)

joined-patterns : (patterns : List FlatPattern) → Each ReadablePattern patterns → list_all is_joined_pattern patterns ≡ true
joined-patterns [] h = refl
joined-patterns (pattern ∷ patterns) h = and_from (is_joined_pattern pattern) _ (joined-rules pattern.rules h.0) (joined-patterns patterns h.1)

joined-notes : (ds : List Diagnostic) → Each ReadableDiagnostic ds → are_joined_notes ds ≡ true
joined-notes [] h = refl
joined-notes (d ∷ ds) h = and_from (are_joined false d.message) _ h.0.joined (joined-notes ds h.1)

pub joined_again : (schema : FlatSchema) → ReadableSchema schema → is_joined schema ≡ true
joined_again schema good =
    and_from (list_all is_joined_pattern schema.patterns) _ (joined-patterns schema.patterns good.patterns)
    (and_from (are_joined_notes schema.diagnostics) _ (joined-notes schema.diagnostics good.diagnostics) (joined-notes schema.properties good.properties))
