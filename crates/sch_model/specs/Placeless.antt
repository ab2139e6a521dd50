-- Parts of a schema with their places forgotten: each stands at node 0.
use Rattle.std.specs.Prelude.{Bool, true, false, [], ◌∷◌, map}
use Rattle.sch_model.specs.declared.flat.FlatPattern.{FlatPattern}
use Rattle.sch_model.specs.declared.flat.FlatRule.{FlatRule}
use Rattle.sch_model.specs.declared.flat.FlatSchema.{FlatSchema}
use Rattle.sch_model.specs.declared.parts.Active.{Active}
use Rattle.sch_model.specs.declared.parts.Assertion.{Assertion}
use Rattle.sch_model.specs.declared.parts.Diagnostic.{Diagnostic}
use Rattle.sch_model.specs.declared.parts.LetDecl.{LetDecl}
use Rattle.sch_model.specs.declared.parts.Ns.{Ns}
use Rattle.sch_model.specs.declared.parts.Part.{Part}
use Rattle.sch_model.specs.declared.parts.Part.TheVariants as part
use Rattle.sch_model.specs.declared.parts.Phase.{Phase}
use Rattle.sch_model.specs.declared.raw.Param.{Param}
use Rattle.sch_model.specs.declared.raw.RawItem.{RawItem}
use Rattle.sch_model.specs.declared.raw.RawItem.TheVariants as item
use Rattle.sch_model.specs.declared.raw.RawPattern.{RawPattern}
use Rattle.sch_model.specs.declared.raw.RawRule.{RawRule}
use Rattle.sch_model.specs.declared.raw.RawSchema.{RawSchema}

abbrev pub placeless_ns : Ns → Ns
placeless_ns ns = record ns { node = 0 }

abbrev pub placeless_let : LetDecl → LetDecl
placeless_let decl = record decl { node = 0 }

abbrev pub placeless_active : Active → Active
placeless_active active = record active { node = 0 }

abbrev pub placeless_phase : Phase → Phase
placeless_phase phase = record {
  node = 0;
  id = phase.id;
  lets = map placeless_let phase.lets;
  active = map placeless_active phase.active;
}

abbrev pub placeless_part : Part → Part
placeless_part (part.Chars characters) = part.Chars characters
placeless_part (part.ValueOf node select) = part.ValueOf 0 select
placeless_part (part.Name node path) = part.Name 0 path

-- whether a part isn't an empty text
abbrev pub is_some_part : Part → Bool
is_some_part (part.Chars []) = false
is_some_part (part.Chars (byte ∷ characters)) = true
is_some_part (part.ValueOf node select) = true
is_some_part (part.Name node path) = true

abbrev pub placeless_assertion : Assertion → Assertion
placeless_assertion assertion = record assertion { node = 0; message = map placeless_part assertion.message }

abbrev pub placeless_item : RawItem → RawItem
placeless_item (item.Let decl) = item.Let (placeless_let decl)
placeless_item (item.Assertion assertion) = item.Assertion (placeless_assertion assertion)
placeless_item (item.Extends node rule) = item.Extends 0 rule

abbrev pub placeless_rule : RawRule → RawRule
placeless_rule rule = record rule { node = 0; items = map placeless_item rule.items }

abbrev pub placeless_param : Param → Param
placeless_param param = record param { node = 0 }

abbrev pub placeless_pattern : RawPattern → RawPattern
placeless_pattern pattern = record {
  node = 0;
  is_abstract = pattern.is_abstract;
  id = pattern.id;
  is_a = pattern.is_a;
  params = map placeless_param pattern.params;
  lets = map placeless_let pattern.lets;
  rules = map placeless_rule pattern.rules;
}

abbrev pub placeless_diagnostic : Diagnostic → Diagnostic
placeless_diagnostic diagnostic = record diagnostic { node = 0; message = map placeless_part diagnostic.message }

-- a schema of which each part stands at node 0
abbrev pub placeless_schema : RawSchema → RawSchema
placeless_schema schema = record {
  head = record schema.head { node = 0 };
  ns = map placeless_ns schema.ns;
  lets = map placeless_let schema.lets;
  phases = map placeless_phase schema.phases;
  patterns = map placeless_pattern schema.patterns;
  diagnostics = map placeless_diagnostic schema.diagnostics;
  properties = map placeless_diagnostic schema.properties;
}

abbrev pub placeless_flat_rule : FlatRule → FlatRule
placeless_flat_rule rule = record rule { node = 0; lets = map placeless_let rule.lets; assertions = map placeless_assertion rule.assertions }

abbrev pub placeless_flat_pattern : FlatPattern → FlatPattern
placeless_flat_pattern pattern = record pattern { node = 0; lets = map placeless_let pattern.lets; rules = map placeless_flat_rule pattern.rules }

-- a flat schema of which each part stands at node 0
abbrev pub placeless_flat : FlatSchema → FlatSchema
placeless_flat schema = record {
  head = record schema.head { node = 0 };
  ns = map placeless_ns schema.ns;
  lets = map placeless_let schema.lets;
  phases = map placeless_phase schema.phases;
  patterns = map placeless_flat_pattern schema.patterns;
  diagnostics = map placeless_diagnostic schema.diagnostics;
  properties = map placeless_diagnostic schema.properties;
}
