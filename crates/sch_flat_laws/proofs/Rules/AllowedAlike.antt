-- Whether a schema's names have their forms doesn't depend on the places of its parts.
use Rattle.std.proofs.Common.{◌≡◌, List, map, refl, sym, subst}
use Rattle.std.specs.List.{IsDistinct, flat_map}
use Rattle.std.specs.Str.{bytes_eq}
use Rattle.sch_model.specs.declared.flat.FlatPattern.{FlatPattern}
use Rattle.sch_model.specs.declared.flat.FlatRule.{FlatRule}
use Rattle.sch_model.specs.declared.flat.FlatSchema.{FlatSchema}
use Rattle.sch_model.specs.declared.parts.Diagnostic.{Diagnostic}
use Rattle.sch_model.specs.declared.parts.LetDecl.{LetDecl}
use Rattle.sch_model.specs.declared.parts.Ns.{Ns}
use Rattle.sch_model.specs.declared.parts.Phase.{Phase}
use Rattle.sch_model.specs.Placeless.{placeless_diagnostic, placeless_flat, placeless_flat_pattern, placeless_flat_rule, placeless_let, placeless_ns, placeless_phase}
use Rattle.sch_flat_laws.specs.Readable.{Each}
use Rattle.sch_flat_laws.specs.Allowed.{Allowed, AllowedDiagnostic, AllowedLet, AllowedNs, AllowedPattern, AllowedPhase, AllowedRule, pattern_ids}
use Rattle.sch_flat_laws.proofs.Rules.Forgotten.{same_over}
use Rattle.sch_flat_laws.proofs.Rules.Referring.{forget_each, names_over, recall_each}

forget-ns : (ns : Ns) → AllowedNs ns → AllowedNs (placeless_ns ns)
forget-ns ns h = record { prefix = h.prefix; uri = h.uri; binding = h.binding }

recall-ns : (ns : Ns) → AllowedNs (placeless_ns ns) → AllowedNs ns
recall-ns ns h = record { prefix = h.prefix; uri = h.uri; binding = h.binding }

forget-lets : (lets : List LetDecl) → Each AllowedLet lets → Each AllowedLet (map placeless_let lets)
forget-lets lets h = forget_each AllowedLet placeless_let (λ x is. is) lets h

recall-lets : (lets : List LetDecl) → Each AllowedLet (map placeless_let lets) → Each AllowedLet lets
recall-lets lets h = recall_each AllowedLet placeless_let (λ x is. is) lets h

forget-phase : (phase : Phase) → AllowedPhase phase → AllowedPhase (placeless_phase phase)
forget-phase phase h = record { id = h.id; lets = forget-lets phase.lets h.lets }

recall-phase : (phase : Phase) → AllowedPhase (placeless_phase phase) → AllowedPhase phase
recall-phase phase h = record { id = h.id; lets = recall-lets phase.lets h.lets }

forget-pattern : (pattern : FlatPattern) → AllowedPattern pattern → AllowedPattern (placeless_flat_pattern pattern)
forget-pattern pattern h = record {
  id = h.id;
  lets = forget-lets pattern.lets h.lets;
  rules = forget_each AllowedRule placeless_flat_rule (λ (rule : FlatRule) is. forget-lets rule.lets is) pattern.rules h.rules;
}

recall-pattern : (pattern : FlatPattern) → AllowedPattern (placeless_flat_pattern pattern) → AllowedPattern pattern
recall-pattern pattern h = record {
  id = h.id;
  lets = recall-lets pattern.lets h.lets;
  rules = recall_each AllowedRule placeless_flat_rule (λ (rule : FlatRule) is. recall-lets rule.lets is) pattern.rules h.rules;
}

-- the names are the same
prefixes-same : (schema : FlatSchema) → map (λ (x : Ns). x.prefix) (placeless_flat schema).ns ≡ map (λ (x : Ns). x.prefix) schema.ns
prefixes-same schema = names_over (λ (x : Ns). x.prefix) (λ (x : Ns). x.prefix) placeless_ns (λ x. refl) schema.ns

phases-same : (schema : FlatSchema) → map (λ (x : Phase). x.id) (placeless_flat schema).phases ≡ map (λ (x : Phase). x.id) schema.phases
phases-same schema = names_over (λ (x : Phase). x.id) (λ (x : Phase). x.id) placeless_phase (λ x. refl) schema.phases

patterns-same : (schema : FlatSchema) → flat_map pattern_ids (placeless_flat schema).patterns ≡ flat_map pattern_ids schema.patterns
patterns-same schema = same_over pattern_ids placeless_flat_pattern (λ x. refl) schema.patterns

notes-same : (notes : List Diagnostic) → map (λ (x : Diagnostic). x.id) (map placeless_diagnostic notes) ≡ map (λ (x : Diagnostic). x.id) notes
notes-same notes = names_over (λ (x : Diagnostic). x.id) (λ (x : Diagnostic). x.id) placeless_diagnostic (λ x. refl) notes

allowed-forgets : (schema : FlatSchema) → Allowed schema → Allowed (placeless_flat schema)
allowed-forgets schema h = record {
  ns = forget_each AllowedNs placeless_ns forget-ns schema.ns h.ns;
  lets = forget-lets schema.lets h.lets;
  phases = forget_each AllowedPhase placeless_phase forget-phase schema.phases h.phases;
  patterns = forget_each AllowedPattern placeless_flat_pattern forget-pattern schema.patterns h.patterns;
  diagnostics = forget_each AllowedDiagnostic placeless_diagnostic (λ x is. is) schema.diagnostics h.diagnostics;
  properties = forget_each AllowedDiagnostic placeless_diagnostic (λ x is. is) schema.properties h.properties;
  prefixes_differ = subst (IsDistinct bytes_eq) (sym (prefixes-same schema)) h.prefixes_differ;
  phases_differ = subst (IsDistinct bytes_eq) (sym (phases-same schema)) h.phases_differ;
  patterns_differ = subst (IsDistinct bytes_eq) (sym (patterns-same schema)) h.patterns_differ;
  diagnostics_differ = subst (IsDistinct bytes_eq) (sym (notes-same schema.diagnostics)) h.diagnostics_differ;
  properties_differ = subst (IsDistinct bytes_eq) (sym (notes-same schema.properties)) h.properties_differ;
}

allowed-recalls : (schema : FlatSchema) → Allowed (placeless_flat schema) → Allowed schema
allowed-recalls schema h = record {
  ns = recall_each AllowedNs placeless_ns recall-ns schema.ns h.ns;
  lets = recall-lets schema.lets h.lets;
  phases = recall_each AllowedPhase placeless_phase recall-phase schema.phases h.phases;
  patterns = recall_each AllowedPattern placeless_flat_pattern recall-pattern schema.patterns h.patterns;
  diagnostics = recall_each AllowedDiagnostic placeless_diagnostic (λ x is. is) schema.diagnostics h.diagnostics;
  properties = recall_each AllowedDiagnostic placeless_diagnostic (λ x is. is) schema.properties h.properties;
  prefixes_differ = subst (IsDistinct bytes_eq) (prefixes-same schema) h.prefixes_differ;
  phases_differ = subst (IsDistinct bytes_eq) (phases-same schema) h.phases_differ;
  patterns_differ = subst (IsDistinct bytes_eq) (patterns-same schema) h.patterns_differ;
  diagnostics_differ = subst (IsDistinct bytes_eq) (notes-same schema.diagnostics) h.diagnostics_differ;
  properties_differ = subst (IsDistinct bytes_eq) (notes-same schema.properties) h.properties_differ;
}

-- two schemas that differ in places alone are allowed alike
pub allowed_alike : (one other : FlatSchema) → placeless_flat one ≡ placeless_flat other → Allowed one → Allowed other
allowed_alike one other same h = allowed-recalls other (subst Allowed same (allowed-forgets one h))
