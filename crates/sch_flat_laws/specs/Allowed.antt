-- Flat schemas whose names have the forms that a schema's rules want, and of which no name is used twice (ISO/IEC
-- 19757-3:2016, section 5).
use Rattle.std.specs.Prelude.{◌≡◌, ◌≢◌, ℕ, true, false, List, [], map}
use Rattle.std.specs.List.{IsDistinct, flat_map}
use Rattle.std.specs.Option.{option_to_list}
use Rattle.std.specs.Str.{bytes_eq}
use Rattle.sch_base.specs.Names.{is_ncname}
use Rattle.sch_model.specs.declared.flat.FlatPattern.{FlatPattern}
use Rattle.sch_model.specs.declared.flat.FlatRule.{FlatRule}
use Rattle.sch_model.specs.declared.flat.FlatSchema.{FlatSchema}
use Rattle.sch_model.specs.declared.parts.Diagnostic.{Diagnostic}
use Rattle.sch_model.specs.declared.parts.LetDecl.{LetDecl}
use Rattle.sch_model.specs.declared.parts.Ns.{Ns}
use Rattle.sch_model.specs.declared.parts.Phase.{Phase}
use Rattle.sch_rules.specs.Rules.{is_bad_binding}
use Rattle.sch_flat_laws.specs.Readable.{Each}

-- a text that is an NCName
abbrev pub IsName : List ℕ → Type 0
IsName text = is_ncname text ≡ true

-- a prefix that is an NCName and may be bound to the namespace, which is not empty
pub record AllowedNs (ns : Ns) : Type 0 where
  pub prefix : IsName ns.prefix
  pub uri : ns.uri ≢ []
  pub binding : is_bad_binding ns.prefix ns.uri ≡ false

-- a let whose name is an NCName
abbrev pub AllowedLet : LetDecl → Type 0
AllowedLet decl = IsName decl.name

-- a phase whose id is an NCName, with such lets
pub record AllowedPhase (phase : Phase) : Type 0 where
  pub id : IsName phase.id
  pub lets : Each AllowedLet phase.lets

-- a rule with such lets; its id is free
abbrev pub AllowedRule : FlatRule → Type 0
AllowedRule rule = Each AllowedLet rule.lets

-- the id of a pattern, where it has one
abbrev pub pattern_ids : FlatPattern → List (List ℕ)
pattern_ids pattern = option_to_list pattern.id

-- a pattern whose id is an NCName, where it has one, with such lets and rules
pub record AllowedPattern (pattern : FlatPattern) : Type 0 where
  pub id : Each IsName (pattern_ids pattern)
  pub lets : Each AllowedLet pattern.lets
  pub rules : Each AllowedRule pattern.rules

-- a diagnostic or a property whose id is an NCName
abbrev pub AllowedDiagnostic : Diagnostic → Type 0
AllowedDiagnostic diagnostic = IsName diagnostic.id

-- a schema of such parts: no two prefixes are the same, nor two ids of phases, of patterns, of diagnostics or
-- of properties
pub record Allowed (schema : FlatSchema) : Type 0 where
  pub ns : Each AllowedNs schema.ns
  pub lets : Each AllowedLet schema.lets
  pub phases : Each AllowedPhase schema.phases
  pub patterns : Each AllowedPattern schema.patterns
  pub diagnostics : Each AllowedDiagnostic schema.diagnostics
  pub properties : Each AllowedDiagnostic schema.properties
  pub prefixes_differ : IsDistinct bytes_eq (map (λ ns. ns.prefix) schema.ns)
  pub phases_differ : IsDistinct bytes_eq (map (λ phase. phase.id) schema.phases)
  pub patterns_differ : IsDistinct bytes_eq (flat_map pattern_ids schema.patterns)
  pub diagnostics_differ : IsDistinct bytes_eq (map (λ diagnostic. diagnostic.id) schema.diagnostics)
  pub properties_differ : IsDistinct bytes_eq (map (λ property. property.id) schema.properties)
