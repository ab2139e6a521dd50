-- What parts of a schema amount to, each without what it holds of other parts.
use Rattle.std.specs.Prelude.{ℕ, List, [], ◌∷◌, Option, None, Some, codes}
use Rattle.sch_model.specs.declared.flat.FlatPattern.{FlatPattern}
use Rattle.sch_model.specs.declared.flat.FlatRule.{FlatRule}
use Rattle.sch_model.specs.declared.parts.Assertion.{Assertion}
use Rattle.sch_model.specs.declared.parts.LetDecl.{LetDecl}
use Rattle.sch_model.specs.declared.raw.Param.{Param}
use Rattle.sch_model.specs.declared.raw.RawPattern.{RawPattern}
use Rattle.sch_model.specs.declared.raw.RawRule.{RawRule}
use Rattle.sch_expansion.specs.Filled.{filled}
use Rattle.sch_expansion.specs.Flat.{assertion_with, bare_pattern, let_with, rule_with}
use Rattle.sch_flat.specs.FlatDocument.{assertion_events, element, let_events, rule_attributes}
use Rattle.sch_sizes.specs.declared.amount.Amount.{Amount}
use Rattle.sch_sizes.specs.inner.Amounts.{many, nothing, of_events}

-- of parts of a schema without abstract parts
pub record FlatWeights : Type 0 where
  pub flat_let : LetDecl → Amount
  pub flat_assertion : Assertion → Amount
  pub flat_rule : FlatRule → Amount
  pub flat_pattern : FlatPattern → Amount

-- of parts as they are read
pub record Weights : Type 0 where
  pub let_weight : LetDecl → Amount
  pub assertion_weight : Assertion → Amount
  pub rule_weight : RawRule → Amount
  pub pattern_weight : RawPattern → Amount

-- of parts as they are read, whose expressions are changed
abbrev pub changed : FlatWeights → (List ℕ → List ℕ) → Weights
changed weights change = record {
  let_weight = λ decl. weights.flat_let (let_with change decl);
  assertion_weight = λ assertion. weights.flat_assertion (assertion_with change assertion);
  rule_weight = λ rule. weights.flat_rule (rule_with change rule []);
  pattern_weight = λ pattern. weights.flat_pattern (bare_pattern pattern);
}

-- how many there are
abbrev pub counts : FlatWeights
counts = record {
  flat_let = λ decl. many 0 0 1;
  flat_assertion = λ assertion. many 0 1 0;
  flat_rule = λ rule. many 1 0 0;
  flat_pattern = λ pattern. nothing;
}

-- how large they are in the document
abbrev pub sizes : FlatWeights
sizes = record {
  flat_let = λ decl. of_events (let_events decl);
  flat_assertion = λ assertion. of_events (assertion_events assertion);
  flat_rule = λ rule. of_events (element (codes "sch:rule") (rule_attributes rule) []);
  flat_pattern = λ pattern. of_events (element (codes "sch:pattern") ((codes "id", pattern.id) ∷ []) []);
}

-- texts as they are, or with these parameters replaced
abbrev pub change_by : Option (List Param) → List ℕ → List ℕ
change_by None text = text
change_by (Some params) text = filled params text
