-- Assertions, rules and patterns, as they are read.
use Rattle.std.proofs.Common.{◌≡◌, ℕ, Bool, true, false, cond, List, [], ◌∷◌, ◌++◌, Some, map, refl, sym, ap, ◌∙◌, subst, append-nil}
use Rattle.std.specs.List.{flat_map}
use Rattle.std.specs.Prelude.{codes}
use Rattle.std.specs.Option.{option_map_or}
use Rattle.std.proofs.lemmas.Grind.{flat_map-append}
use Rattle.doc_tree.specs.Kinds.{can_be_kid}
use Rattle.doc_tree.specs.Laws.{HasWaysUp, Ordered, Walks, WellFormed}
use Rattle.doc_tree.specs.Scope.{HasScopes, xmlns_prefix}
use Rattle.doc_tree.specs.Table.{Table, content_of, kids_of, kind_of, parent_of}
use Rattle.doc_tree.specs.Walks.{characters_in}
use Rattle.name_scopes.specs.Scoping.{InScope}
use Rattle.pyx_core.specs.declared.event.Event.{Event}
use Rattle.sch_model.specs.declared.flat.FlatPattern.{FlatPattern}
use Rattle.sch_model.specs.declared.flat.FlatRule.{FlatRule}
use Rattle.sch_model.specs.declared.parts.Assertion.{Assertion}
use Rattle.sch_model.specs.declared.parts.LetDecl.{LetDecl}
use Rattle.sch_model.specs.declared.raw.RawItem.TheVariants as item
use Rattle.sch_rules.specs.declared.word.Word.{Word}
use Rattle.sch_rules.specs.declared.word.Word.TheVariants as word
use Rattle.sch_rules.specs.Elements.{is_ignored, word_above, word_at}
use Rattle.sch_rules.specs.RawSchema.{assertion_of, holds_text, ids_in, item_at, item_of, let_of, param_of, part_at, pattern_of, read_if, read_kids, rule_of, text_at}
use Rattle.sch_rules.specs.Words.{is_word, word_of}
use Rattle.sch_flat.specs.FlatDocument.{assertion_attributes, assertion_events, assertion_name, element as sch_element, let_events, part_events, pattern_events, rule_attributes, rule_events}
use Rattle.sch_texts.specs.Ids.{id_list, spaced}
use Rattle.sch_flat_laws.specs.Expansion.{raw_pattern, raw_rule}
use Rattle.sch_model.specs.Placeless.{placeless_assertion, placeless_item, placeless_let, placeless_pattern, placeless_rule}
use Rattle.sch_flat_laws.specs.Readable.{Each, ReadableAssertion, ReadablePattern, ReadableRule}
use Rattle.sch_flat_laws.proofs.Reading.Document.{are_kids}
use Rattle.sch_flat_laws.proofs.Reading.EventBlocks.{assertion_chunk, holds_all, holds_append, holds_some, let_chunk, part_holds, rule_chunk, said, said_append}
use Rattle.sch_flat_laws.proofs.Reading.Kids.{Items, Pairs, none_left, take_pairs}
use Rattle.sch_flat_laws.proofs.Reading.Leaves.{AreKids, all_read, let_read, read_all}
use Rattle.sch_flat_laws.proofs.Reading.Messages.{either_nothing, map_append, message_read}
use Rattle.sch_flat_laws.proofs.Reading.Places.{Place, read_element}
use Rattle.sch_flat_laws.proofs.Reading.Schema.{all_words, kids_parts, none_of, skip, stop}
use Rattle.sch_flat_laws.proofs.Reading.TreeBlocks.{told}

-- a node that is read under this word as what another thing says, but for places
pub record ReadTo {A B : Type 0} (T : Table) (w : Word) (read : ℕ → B) (forget : B → B) (to : A → B) (k : ℕ) (x : A) : Type 0 where
  pub word : word_at T k ≡ Some w
  pub same : forget (read k) ≡ forget (to x)

-- each of them
pub read_to_all : {A B : Type 0} (T : Table) (w : Word) (read : ℕ → B) (forget : B → B) (to : A → B) (ok : A → Type 0) (f : A → List Event) (p : ℕ) → is_word w (Some w) ≡ true →
    ((k : ℕ) (x : A) → ok x → parent_of T k ≡ Some p → can_be_kid (kind_of T k) ≡ true → Items T (kids_of T k) → told T k ≡ said (f x) → ReadTo T w read forget to k x) →
    (ks : List ℕ) (xs : List A) → Each ok xs → AreKids T p ks → Pairs T f ks xs → map forget (flat_map (read_if T w read) ks) ≡ map forget (map to xs)
read_to_all T w read forget to ok f p is each [] [] good kids pairs = refl
read_to_all T w read forget to ok f p is each [] (x ∷ xs) good kids pairs = absurd pairs
read_to_all T w read forget to ok f p is each (k ∷ ks) [] good kids pairs = absurd pairs
read_to_all T w read forget to ok f p is each (k ∷ ks) (x ∷ xs) good kids pairs =
    let r = each k x good.0 kids.0.0 kids.0.1 kids.0.2 pairs.0 in
    ap (λ (b : Bool). map forget (cond b (read k ∷ []) [] ++ flat_map (read_if T w read) ks)) (ap (is_word w) r.word ∙ is)
    ∙ ap (λ y. y ∷ map forget (flat_map (read_if T w read) ks)) r.same
    ∙ ap (λ l. forget (to x) ∷ l) (read_to_all T w read forget to ok f p is each ks xs good.1 kids.1 pairs.1)

said-ids : (ids : List (List ℕ)) → option_map_or (λ text. text) (id_list ids) [] ≡ spaced ids
said-ids [] = refl
said-ids (id ∷ ids) = refl

-- an element that is no part of a message gives none itself
pub silent_element : (T : Table) (n : ℕ) (w : Word) → is_ignored T n ≡ false → word_at T n ≡ Some w → is_word word.ValueOf (Some w) ≡ false → is_word word.Name (Some w) ≡ false →
    characters_in (content_of T n) ≡ [] → part_at T n ≡ []
silent_element T n w counts is no_value no_name blank =
    let text : text_at T n ≡ [] = ap (λ l. cond (holds_text (word_above T n)) l []) blank ∙ either_nothing (holds_text (word_above T n)) in
    rw (counts, is, no_value, no_name, text) refl

abbrev pub message_local : Bool → List ℕ
message_local report = cond report (codes "report") (codes "assert")

abbrev pub message_word : Bool → Word
message_word report = cond report word.Report word.Assert

module _ (T : Table) (formed : WellFormed T) (ordered : Ordered T) (ways : HasWaysUp T) (walks : Walks T) (scopes : HasScopes T) (in_scope : InScope T) where
  -- an assertion under its name
  assertion-as : (p k : ℕ) (b : Bool) (a : Assertion) → ReadableAssertion a → Place T p → parent_of T k ≡ Some p → can_be_kid (kind_of T k) ≡ true → Items T (kids_of T k) →
      told T k ≡ said (sch_element (assertion_name b) (assertion_attributes a) (flat_map part_events a.message)) →
      (word_at T k ≡ Some (message_word b)) × (placeless_assertion (assertion_of T b k) ≡ placeless_assertion (record a { report = b }))
  unfolding xmlns_prefix word_of
  assertion-as p k false a good place up kid items same =
      let r = read_element T formed ways walks scopes in_scope p k (codes "assert") (assertion_attributes a) (flat_map part_events a.message) place up kid items
      (holds_some part_events part_holds a.message) refl same in
      let silent = silent_element T k word.Assert r.place.counts r.word refl refl r.blank in
      let message = message_read T formed ordered ways walks scopes in_scope k word.Assert (codes "assert") (assertion_attributes a) a.message r r.word refl silent good.some good.joined in
      let ids = ap (λ v. ids_in (option_map_or (λ (text : List ℕ). text) v [])) (r.says (codes "diagnostics")) ∙ ap ids_in (said-ids a.diagnostics) ∙ good.ids in
      let properties = ap (λ v. ids_in (option_map_or (λ (text : List ℕ). text) v [])) (r.says (codes "properties")) ∙ ap ids_in (said-ids a.properties) ∙ good.properties in
      (r.word, rw (r.says (codes "id"), r.says (codes "role"), r.says (codes "flag"), r.says (codes "test"), r.says (codes "subject"), ids, properties, message) refl)
  assertion-as p k true a good place up kid items same =
      let r = read_element T formed ways walks scopes in_scope p k (codes "report") (assertion_attributes a) (flat_map part_events a.message) place up kid items
      (holds_some part_events part_holds a.message) refl same in
      let silent = silent_element T k word.Report r.place.counts r.word refl refl r.blank in
      let message = message_read T formed ordered ways walks scopes in_scope k word.Report (codes "report") (assertion_attributes a) a.message r r.word refl silent good.some good.joined in
      let ids = ap (λ v. ids_in (option_map_or (λ (text : List ℕ). text) v [])) (r.says (codes "diagnostics")) ∙ ap ids_in (said-ids a.diagnostics) ∙ good.ids in
      let properties = ap (λ v. ids_in (option_map_or (λ (text : List ℕ). text) v [])) (r.says (codes "properties")) ∙ ap ids_in (said-ids a.properties) ∙ good.properties in
      (r.word, rw (r.says (codes "id"), r.says (codes "role"), r.says (codes "flag"), r.says (codes "test"), r.says (codes "subject"), ids, properties, message) refl)

  -- the items of a rule
  let-items : (p : ℕ) → Place T p → (ks : List ℕ) (xs : List LetDecl) → AreKids T p ks → Pairs T let_events ks xs →
      map placeless_item (flat_map (item_at T) ks) ≡ map placeless_item (map (λ decl. item.Let decl) xs)
  let-items p place [] [] kids pairs = refl
  let-items p place [] (x ∷ xs) kids pairs = absurd pairs
  let-items p place (k ∷ ks) [] kids pairs = absurd pairs
  let-items p place (k ∷ ks) (x ∷ xs) kids pairs =
      let r = let_read T formed ways walks scopes in_scope p k x place kids.0.0 kids.0.1 kids.0.2 pairs.0 in
      ap (λ w. map placeless_item (item_of T k w ++ flat_map (item_at T) ks)) r.word
      ∙ ap (λ d. item.Let d ∷ map placeless_item (flat_map (item_at T) ks)) r.same
      ∙ ap (λ l. item.Let (placeless_let x) ∷ l) (let-items p place ks xs kids.1 pairs.1)

  assertion-item : (p k : ℕ) (b : Bool) (a : Assertion) → b ≡ a.report → ReadableAssertion a → Place T p → parent_of T k ≡ Some p → can_be_kid (kind_of T k) ≡ true → Items T (kids_of T k) →
      told T k ≡ said (sch_element (assertion_name b) (assertion_attributes a) (flat_map part_events a.message)) →
      map placeless_item (item_at T k) ≡ item.Assertion (placeless_assertion a) ∷ []
  assertion-item p k false a is good place up kid items same =
      let r = assertion-as p k false a good place up kid items same in
      ap (λ w. map placeless_item (item_of T k w)) r.0
      ∙ ap (λ x. item.Assertion x ∷ []) (r.1 ∙ ap (λ b. placeless_assertion (record a { report = b })) is)
  assertion-item p k true a is good place up kid items same =
      let r = assertion-as p k true a good place up kid items same in
      ap (λ w. map placeless_item (item_of T k w)) r.0
      ∙ ap (λ x. item.Assertion x ∷ []) (r.1 ∙ ap (λ b. placeless_assertion (record a { report = b })) is)

  assertion-items : (p : ℕ) → Place T p → (ks : List ℕ) (xs : List Assertion) → Each ReadableAssertion xs → AreKids T p ks → Pairs T assertion_events ks xs →
      map placeless_item (flat_map (item_at T) ks) ≡ map placeless_item (map (λ assertion. item.Assertion assertion) xs)
  assertion-items p place [] [] good kids pairs = refl
  assertion-items p place [] (x ∷ xs) good kids pairs = absurd pairs
  assertion-items p place (k ∷ ks) [] good kids pairs = absurd pairs
  assertion-items p place (k ∷ ks) (x ∷ xs) good kids pairs =
      map_append placeless_item (item_at T k) (flat_map (item_at T) ks)
      ∙ ap (λ l. l ++ map placeless_item (flat_map (item_at T) ks)) (assertion-item p k x.report x refl good.0 place kids.0.0 kids.0.1 kids.0.2 pairs.0)
      ∙ ap (λ l. item.Assertion (placeless_assertion x) ∷ l) (assertion-items p place ks xs good.1 kids.1 pairs.1)

  rule-read : (p k : ℕ) (rule : FlatRule) → ReadableRule rule → Place T p → parent_of T k ≡ Some p → can_be_kid (kind_of T k) ≡ true → Items T (kids_of T k) →
      told T k ≡ said (rule_events rule) → ReadTo T word.Rule (rule_of T) placeless_rule raw_rule k rule
  unfolding xmlns_prefix word_of
  rule-read p k rule good place up kid items same =
      let lets = flat_map let_events rule.lets in
      let assertions = flat_map assertion_events rule.assertions in
      let r = read_element T formed ways walks scopes in_scope p k (codes "rule")
      (rule_attributes rule) (lets ++ assertions) place up kid items
      (holds_append lets assertions (holds_all let_events let_chunk rule.lets) (holds_all assertion_events assertion_chunk rule.assertions)) refl same in
      let t1 = take_pairs T let_events let_chunk (kids_of T k) items rule.lets (said assertions) (r.kids ∙ said_append lets assertions) in
      let t2 = take_pairs T assertion_events assertion_chunk t1.back t1.items rule.assertions [] (t1.left ∙ sym (append-nil (said assertions))) in
      let are : kids_of T k ≡ t1.front ++ t2.front =
      t1.parts ∙ ap (λ l. t1.front ++ l) (t2.parts ∙ ap (λ l. t2.front ++ l) (none_left T t2.back t2.items t2.left) ∙ append-nil t2.front) in
      let split = kids_parts T k t1.front t2.front (subst (AreKids T k) are (are_kids T formed ways walks scopes in_scope k)) in
      let items_are : map placeless_item (flat_map (item_at T) (kids_of T k))
      ≡ map placeless_item (map (λ decl. item.Let decl) rule.lets ++ map (λ assertion. item.Assertion assertion) rule.assertions) =
      ap (λ l. map placeless_item (flat_map (item_at T) l)) are
      ∙ ap (map placeless_item) (flat_map-append (item_at T) t1.front t2.front)
      ∙ map_append placeless_item (flat_map (item_at T) t1.front) (flat_map (item_at T) t2.front)
      ∙ ap (λ l. l ++ map placeless_item (flat_map (item_at T) t2.front)) (let-items k r.place t1.front rule.lets split.0 t1.pairs)
      ∙ ap (λ l. map placeless_item (map (λ decl. item.Let decl) rule.lets) ++ l) (assertion-items k r.place t2.front rule.assertions good split.1 t2.pairs)
      ∙ sym (map_append placeless_item (map (λ decl. item.Let decl) rule.lets) (map (λ assertion. item.Assertion assertion) rule.assertions)) in
      record {
        word = r.word;
        same = rw (r.says (codes "abstract"), r.says (codes "id"), r.says (codes "context"), r.says (codes "subject"), r.says (codes "role"), r.says (codes "flag"), items_are) refl;
      }

  pub rule_word : (p : ℕ) → Place T p → (k : ℕ) (rule : FlatRule) → parent_of T k ≡ Some p → can_be_kid (kind_of T k) ≡ true → Items T (kids_of T k) →
      told T k ≡ said (rule_events rule) → word_at T k ≡ Some word.Rule
  unfolding xmlns_prefix word_of
  rule_word p place k rule up kid items same =
      (read_element T formed ways walks scopes in_scope p k (codes "rule")
      (rule_attributes rule)
      (flat_map let_events rule.lets ++ flat_map assertion_events rule.assertions) place up kid items
      (holds_append (flat_map let_events rule.lets) (flat_map assertion_events rule.assertions) (holds_all let_events let_chunk rule.lets) (holds_all assertion_events assertion_chunk rule.assertions)) refl same).word

  pub pattern_read : (p k : ℕ) (pattern : FlatPattern) → ReadablePattern pattern → Place T p → parent_of T k ≡ Some p → can_be_kid (kind_of T k) ≡ true → Items T (kids_of T k) →
      told T k ≡ said (pattern_events pattern) → ReadTo T word.Pattern (pattern_of T) placeless_pattern raw_pattern k pattern
  unfolding xmlns_prefix word_of
  pattern_read p k pattern good place up kid items same =
      let lets = flat_map let_events pattern.lets in
      let rules = flat_map rule_events pattern.rules in
      let r = read_element T formed ways walks scopes in_scope p k (codes "pattern") ((codes "id", pattern.id) ∷ []) (lets ++ rules) place up kid items
      (holds_append lets rules (holds_all let_events let_chunk pattern.lets) (holds_all rule_events rule_chunk pattern.rules)) refl same in
      let t1 = take_pairs T let_events let_chunk (kids_of T k) items pattern.lets (said rules) (r.kids ∙ said_append lets rules) in
      let t2 = take_pairs T rule_events rule_chunk t1.back t1.items pattern.rules [] (t1.left ∙ sym (append-nil (said rules))) in
      let are : kids_of T k ≡ t1.front ++ t2.front =
      t1.parts ∙ ap (λ l. t1.front ++ l) (t2.parts ∙ ap (λ l. t2.front ++ l) (none_left T t2.back t2.items t2.left) ∙ append-nil t2.front) in
      let split = kids_parts T k t1.front t2.front (subst (AreKids T k) are (are_kids T formed ways walks scopes in_scope k)) in
      let let_words = all_words T word.Let let_events k (λ j x a b c e. (let_read T formed ways walks scopes in_scope k j x r.place a b c e).word) t1.front pattern.lets split.0 t1.pairs in
      let rule_words = all_words T word.Rule rule_events k (rule_word k r.place) t2.front pattern.rules split.1 t2.pairs in
      let lets_are : map placeless_let (read_kids T word.Let (let_of T) k) ≡ map placeless_let pattern.lets =
      ap (λ l. map placeless_let (flat_map (read_if T word.Let (let_of T)) l)) are
      ∙ ap (map placeless_let) (stop (read_if T word.Let (let_of T)) t1.front t2.front (none_of T word.Let word.Rule (let_of T) refl t2.front rule_words))
      ∙ read_all T word.Let (let_of T) placeless_let refl t1.front pattern.lets
      (all_read T word.Let (let_of T) placeless_let let_events k (λ j x. let_read T formed ways walks scopes in_scope k j x r.place) t1.front pattern.lets split.0 t1.pairs) in
      let rules_are : map placeless_rule (read_kids T word.Rule (rule_of T) k) ≡ map placeless_rule (map raw_rule pattern.rules) =
      ap (λ l. map placeless_rule (flat_map (read_if T word.Rule (rule_of T)) l)) are
      ∙ ap (map placeless_rule) (skip (read_if T word.Rule (rule_of T)) t1.front t2.front (none_of T word.Rule word.Let (rule_of T) refl t1.front let_words))
      ∙ read_to_all T word.Rule (rule_of T) placeless_rule raw_rule ReadableRule rule_events k refl (λ j x ok. rule-read k j x ok r.place) t2.front pattern.rules good split.1 t2.pairs in
      let params_are : read_kids T word.Param (param_of T) k ≡ [] =
      ap (flat_map (read_if T word.Param (param_of T))) are
      ∙ skip (read_if T word.Param (param_of T)) t1.front t2.front (none_of T word.Param word.Let (param_of T) refl t1.front let_words)
      ∙ none_of T word.Param word.Rule (param_of T) refl t2.front rule_words in
      record {
        word = r.word;
        same = rw (r.says (codes "abstract"), r.says (codes "id"), r.says (codes "is-a"), params_are, lets_are, rules_are) refl;
      }
