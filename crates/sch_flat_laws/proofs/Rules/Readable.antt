-- What is read of a document can be said by a document again.
use Rattle.std.proofs.Common.{◌≡◌, ℕ, Bool, true, false, not, ◌&&◌, cond, List, [], ◌∷◌, ◌++◌, Option, Some, map, refl, ap, ◌∙◌}
use Rattle.std.specs.List.{flat_map, list_all}
use Rattle.std.specs.Prelude.{codes}
use Rattle.doc_tree.specs.Table.{Table, kids_of}
use Rattle.sch_model.specs.Placeless.{is_some_part}
use Rattle.sch_model.specs.declared.parts.Assertion.{Assertion as Check}
use Rattle.sch_model.specs.declared.parts.Part.{Part}
use Rattle.sch_model.specs.declared.parts.Part.TheVariants.{Chars, ValueOf, Name}
use Rattle.sch_model.specs.declared.raw.RawItem.{RawItem}
use Rattle.sch_model.specs.declared.raw.RawItem.TheVariants as item
use Rattle.sch_model.specs.declared.raw.RawPattern.{RawPattern}
use Rattle.sch_model.specs.declared.raw.RawRule.{RawRule}
use Rattle.sch_model.specs.declared.raw.RawSchema.{RawSchema}
use Rattle.sch_rules.specs.declared.word.Word.{Word}
use Rattle.sch_rules.specs.declared.word.Word.TheVariants as word
use Rattle.sch_rules.specs.Elements.{document_element, word_at}
use Rattle.sch_rules.specs.RawSchema.{assertion_of, diagnostic_of, item_at, item_of, notes_at, pattern_of, raw_schema, read_if, read_kids, rule_of}
use Rattle.sch_rules.specs.Words.{is_word}
use Rattle.sch_references.specs.Extends.{abstract_rules}
use Rattle.sch_expansion.specs.Flat.{assertion_in, assertion_with, flat_schema, part_with, rule_with}
use Rattle.sch_flat_laws.specs.IdLists.{IdsAreReadBack}
use Rattle.sch_flat_laws.specs.Joined.{TextsStandApart, are_joined}
use Rattle.sch_flat_laws.specs.Readable.{Each, ReadableAssertion, ReadableDiagnostic, ReadablePattern, ReadableRule, ReadableSchema}
use Rattle.sch_flat_laws.specs.Accepted.{MadeOfChars}
use Rattle.sch_flat_laws.proofs.Rules.Messages.{some_message}
use Rattle.sch_flat_laws.proofs.Rules.Saying.{said_utf8}
use Rattle.sch_flat_laws.proofs.Rules.Sound.{each_append}
use Rattle.sch_flat_laws.proofs.Rules.Standing.{HoldsIn, abstract_hold, assertions_hold, each_map, patterns_hold, rules_hold}

-- what is read of each kid
pub each_read : {A : Type 0} (T : Table) (w : Word) (read : ℕ → A) (P : A → Type 0) → ((k : ℕ) → P (read k)) → (ks : List ℕ) → Each P (flat_map (read_if T w read) ks)
each_read T w read P each [] = tt
each_read T w read P each (k ∷ ks) = by (is_word w (word_at T k)) (each_read T w read P each ks)
  where
    by : (b : Bool) → Each P (flat_map (read_if T w read) ks) → Each P (cond b (read k ∷ []) [] ++ flat_map (read_if T w read) ks)
    by true rest = (each k, rest)
    by false rest = rest

-- a message whose expressions are changed
some-with : (change : List ℕ → List ℕ) (parts : List Part) → list_all is_some_part (map (part_with change) parts) ≡ list_all is_some_part parts
some-with change [] = refl
some-with change (Chars [] ∷ parts) = refl
some-with change (Chars (byte ∷ characters) ∷ parts) = some-with change parts
some-with change (ValueOf node select ∷ parts) = some-with change parts
some-with change (Name node path ∷ parts) = some-with change parts

joined-with : (change : List ℕ → List ℕ) (after_text : Bool) (parts : List Part) → are_joined after_text (map (part_with change) parts) ≡ are_joined after_text parts
joined-with change after_text [] = refl
joined-with change after_text (Chars characters ∷ parts) = ap (λ b. not after_text && b) (joined-with change true parts)
joined-with change after_text (ValueOf node select ∷ parts) = joined-with change false parts
joined-with change after_text (Name node path ∷ parts) = joined-with change false parts

readable-with : (change : List ℕ → List ℕ) (a : Check) → ReadableAssertion a → ReadableAssertion (assertion_with change a)
readable-with change a h = record {
  some = some-with change a.message ∙ h.some;
  joined = joined-with change false a.message ∙ h.joined;
  ids = h.ids;
  properties = h.properties;
}

-- an item that a document can say again
abbrev ReadableItem : RawItem → Type 0
ReadableItem (item.Let decl) = Unit {0}
ReadableItem (item.Assertion assertion) = ReadableAssertion assertion
ReadableItem (item.Extends node name) = Unit {0}

abbrev ReadableRaw : RawPattern → Type 0
ReadableRaw pattern = Each (HoldsIn ReadableItem) pattern.rules

rule-readable : (change : List ℕ → List ℕ) (rule : RawRule) (items : List RawItem) → HoldsIn ReadableItem rule → Each ReadableItem items → ReadableRule (rule_with change rule items)
rule-readable change rule items own h =
    each_map ReadableAssertion (assertion_with change) (flat_map assertion_in items)
    (assertions_hold ReadableItem (λ (a : Check). ReadableAssertion (assertion_with change a)) (readable-with change) items h)

patterns-readable : (schema : RawSchema) → Each ReadableRaw schema.patterns → Each ReadablePattern (flat_schema schema).patterns
patterns-readable schema each =
    patterns_hold schema ReadableRaw ReadablePattern (λ change. Unit {0})
    (λ change pattern origin any own its. rules_hold ReadableItem (abstract_rules schema) (abstract_hold ReadableItem schema each) change (HoldsIn ReadableItem) ReadableRule (λ rule h. h) (rule-readable change) origin.rules its)
    (λ pattern own. tt) tt (λ pattern own. tt) each

module _ (T : Table) (made : MadeOfChars T) (ids : IdsAreReadBack) (apart : TextsStandApart) where
  assertion-readable : (report : Bool) (n : ℕ) → ReadableAssertion (assertion_of T report n)
  assertion-readable report n = record {
    some = some_message T n;
    joined = apart.read T n;
    ids = ids _ (said_utf8 T made n (codes "diagnostics"));
    properties = ids _ (said_utf8 T made n (codes "properties"));
  }

  diagnostic-readable : (n : ℕ) → ReadableDiagnostic (diagnostic_of T n)
  diagnostic-readable n = record { some = some_message T n; joined = apart.read T n }

  item-readable : (k : ℕ) (w : Option Word) → Each ReadableItem (item_of T k w)
  item-readable k (Some word.Assert) = (assertion-readable false k, tt)
  item-readable k (Some word.Report) = (assertion-readable true k, tt)
  item-readable k (Some word.Let) = (tt, tt)
  item-readable k (Some word.Extends) = (tt, tt)
  item-readable k _ = tt

  items-readable : (ks : List ℕ) → Each ReadableItem (flat_map (item_at T) ks)
  items-readable [] = tt
  items-readable (k ∷ ks) = each_append ReadableItem (item_at T k) (flat_map (item_at T) ks) (item-readable k (word_at T k)) (items-readable ks)

  pattern-readable : (n : ℕ) → ReadableRaw (pattern_of T n)
  pattern-readable n = each_read T word.Rule (rule_of T) (HoldsIn ReadableItem) (λ k. items-readable (kids_of T k)) (kids_of T n)

  notes-readable : (group note : Word) (ks : List ℕ) → Each ReadableDiagnostic (flat_map (notes_at T group note) ks)
  notes-readable group note [] = tt
  notes-readable group note (k ∷ ks) =
      each_append ReadableDiagnostic (notes_at T group note k) (flat_map (notes_at T group note) ks) (by (is_word group (word_at T k))) (notes-readable group note ks)
    where
      by : (b : Bool) → Each ReadableDiagnostic (cond b (read_kids T note (diagnostic_of T) k) [])
      by true = each_read T note (diagnostic_of T) ReadableDiagnostic diagnostic-readable (kids_of T k)
      by false = tt

  pub readable : ReadableSchema (flat_schema (raw_schema T))
  readable =
      let d = document_element T in
      record {
        patterns = patterns-readable (raw_schema T) (each_read T word.Pattern (pattern_of T) ReadableRaw pattern-readable (kids_of T d));
        diagnostics = notes-readable word.Diagnostics word.Diagnostic (kids_of T d);
        properties = notes-readable word.Properties word.Property (kids_of T d);
      }
