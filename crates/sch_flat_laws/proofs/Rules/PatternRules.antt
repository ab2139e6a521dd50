-- Patterns, diagnostics, properties and the title: no rule is broken at them.
use Rattle.std.proofs.Common.{◌≡◌, ℕ, Bool, true, false, not, ◌&&◌, ◌||◌, cond, List, [], ◌∷◌, ◌++◌, Option, None, Some, refl, sym, ap, ap₂, ◌∙◌, subst, append-nil}
use Rattle.std.specs.List.{flat_map, list_any}
use Rattle.std.specs.Option.{option_to_list}
use Rattle.std.specs.Prelude.{codes, is_some, option_and_then}
use Rattle.std.specs.Str.{bytes_eq}
use Rattle.std.proofs.lemmas.List.Folds.{list_any-append}
use Rattle.doc_tree.specs.Kinds.{can_be_kid}
use Rattle.doc_tree.specs.Laws.{HasWaysUp, Ordered, Walks, WellFormed}
use Rattle.doc_tree.specs.Scope.{HasScopes, xmlns_prefix}
use Rattle.doc_tree.specs.Table.{Table, kids_of, kind_of, parent_of}
use Rattle.doc_tree.specs.Walks.{below}
use Rattle.name_scopes.specs.Scoping.{InScope}
use Rattle.sch_base.specs.Names.{is_ncname}
use Rattle.sch_model.specs.declared.flat.FlatPattern.{FlatPattern}
use Rattle.sch_model.specs.declared.flat.FlatRule.{FlatRule}
use Rattle.sch_model.specs.declared.parts.Assertion.{Assertion}
use Rattle.sch_model.specs.declared.parts.Diagnostic.{Diagnostic}
use Rattle.sch_model.specs.declared.parts.Part.TheVariants.{Chars}
use Rattle.sch_rules.specs.declared.named.Named.TheVariants as named
use Rattle.sch_rules.specs.declared.word.Word.{Word}
use Rattle.sch_rules.specs.declared.word.Word.TheVariants as word
use Rattle.sch_rules.specs.Attributes.{is_true, said as said_at}
use Rattle.sch_rules.specs.Elements.{word_above, word_at}
use Rattle.sch_rules.specs.Keys.{Key, keys_for, keys_of}
use Rattle.sch_rules.specs.Rules.{has_bad_form, has_kid, is_truth, mixed, mixed_instance, unsupported}
use Rattle.sch_rules.specs.Words.{is_word, word_of}
use Rattle.pyx_core.specs.declared.event.Event.{Event}
use Rattle.sch_flat.specs.FlatDocument.{assertion_attributes, assertion_events, assertion_name, characters, element as sch_element, let_events, note_events, part_events, pattern_events, rule_attributes, rule_events}
use Rattle.sch_texts.specs.Ids.{id_list}
use Rattle.sch_model.specs.Placeless.{is_some_part}
use Rattle.sch_flat_laws.specs.Readable.{Each, ReadableAssertion, ReadableDiagnostic, ReadablePattern, ReadableRule}
use Rattle.sch_flat_laws.proofs.Reading.Document.{are_kids, notes_element, notes_hold, title_element}
use Rattle.sch_flat_laws.proofs.Reading.EventBlocks.{assertion_chunk, holds_all, holds_append, holds_characters, holds_some, let_chunk, note_chunk, part_holds, rule_chunk, said, said_append}
use Rattle.sch_flat_laws.proofs.Reading.Kids.{Items, Pairs, none_left, take_if, take_pairs}
use Rattle.sch_flat_laws.proofs.Reading.Leaves.{AreKids, let_read}
use Rattle.sch_flat_laws.proofs.Reading.Messages.{part_chunk}
use Rattle.sch_flat_laws.proofs.Reading.Notes.{Notes, diagnostics, group_local, group_of, known, named_as, note_local, note_name, note_of, properties}
use Rattle.sch_flat_laws.proofs.Reading.Places.{Place, Read, read_element}
use Rattle.sch_flat_laws.proofs.Reading.Rules.{rule_word}
use Rattle.sch_flat_laws.proofs.Reading.Schema.{AllWords, all_words, kids_parts}
use Rattle.sch_flat_laws.proofs.Reading.TreeBlocks.{told}
use Rattle.sch_flat_laws.specs.Allowed.{AllowedDiagnostic, AllowedLet, AllowedPattern, AllowedRule, IsName, pattern_ids}
use Rattle.sch_flat_laws.proofs.Rules.Elements.{CleanKid, clean_element, clean_empty, clean_kids, clean_quiet, sound_inside, uses_none}
use Rattle.sch_flat_laws.proofs.Rules.Forms.{FormOf, free_form}
use Rattle.sch_flat_laws.proofs.Rules.KeyLemmas.{key_of, keys_of_kind}
use Rattle.sch_flat_laws.proofs.Rules.Parts.{below_parts, let_clean, message_clean, name_form, text_clean}
use Rattle.sch_flat_laws.proofs.Rules.Sound.{Clean, Sound, clean_append, clean_nil}

-- the names that these use
abbrev pub title_names : List ℕ → List Key
title_names title = key_of named.Title (codes "title") ∷ []

abbrev pub pattern_names : FlatPattern → List Key
pattern_names pattern = keys_of_kind named.Pattern (pattern_ids pattern)

abbrev pub note_names : Notes → Diagnostic → List Key
note_names kind note = key_of (named_as kind) note.id ∷ []

abbrev pub notes_names : Notes → List Diagnostic → List Key
notes_names kind notes = flat_map (note_names kind) notes

pub both : {A : Type 0} (P Q : A → Type 0) (xs : List A) → Each P xs → Each Q xs → Each (λ (x : A). P x × Q x) xs
both P Q [] h k = tt
both P Q (x ∷ xs) h k = ((h.0, k.0), both P Q xs h.1 k.1)

-- kids that are other elements are not found among kids
no-kid : (T : Table) (w other : Word) → is_word w (Some other) ≡ false → (ks : List ℕ) → AllWords T other ks → list_any (λ k. is_word w (word_at T k)) ks ≡ false
no-kid T w other differs [] all = refl
no-kid T w other differs (k ∷ ks) all =
    ap (λ (b : Bool). b || list_any (λ k. is_word w (word_at T k)) ks) (ap (is_word w) all.0 ∙ differs) ∙ no-kid T w other differs ks all.1

-- each attribute of a rule that isn't abstract has its form, but for `abstract`
rule-form : (T : Table) (n : ℕ) (name : List ℕ) → is_true (said_at T n (codes "abstract")) ≡ false → bytes_eq name (codes "abstract") ≡ false → (value : List ℕ) →
    has_bad_form T n word.Rule name value ≡ false
rule-form T n name concrete other value =
    ap (λ (b : Bool). ((b && bytes_eq name (codes "id")) && not (is_ncname value)) || ((bytes_eq name (codes "abstract") && not (is_truth value)) || false)) concrete
    ∙ ap (λ (b : Bool). (b && not (is_truth value)) || false) other

module _ (T : Table) (formed : WellFormed T) (ordered : Ordered T) (ways : HasWaysUp T) (walks : Walks T) (scopes : HasScopes T) (in_scope : InScope T) where
  -- an assertion under its name
  assertion-as : (p : ℕ) → Place T p → word_at T p ≡ Some word.Rule → (k : ℕ) (report : Bool) (assertion : Assertion) → ReadableAssertion assertion →
      parent_of T k ≡ Some p → can_be_kid (kind_of T k) ≡ true → Items T (kids_of T k) →
      told T k ≡ said (sch_element (assertion_name report) (assertion_attributes assertion) (flat_map part_events assertion.message)) → Clean T (below T k) []
  unfolding xmlns_prefix word_of
  assertion-as p place is k false a good up kid items same =
      let attributes : List (List ℕ × Option (List ℕ)) = assertion_attributes a in
      let message = flat_map part_events a.message in
      let r = read_element T formed ways walks scopes in_scope p k (codes "assert") attributes message place up kid items (holds_some part_events part_holds a.message) refl same in
      let sound = sound_inside T formed ordered ways walks scopes in_scope k (codes "assert") attributes message word.Assert word.Rule r (record { parent = p; up = up; word = is }) r.word
      (record { held = refl; no_schema = refl; concrete = refl; all_given = refl }) (
        free_form T k word.Assert (codes "id") (λ value. refl) a.id,
        (
          refl,
          (
            free_form T k word.Assert (codes "subject") (λ value. refl) a.subject,
            (
              free_form T k word.Assert (codes "role") (λ value. refl) a.role,
              (
                free_form T k word.Assert (codes "flag") (λ value. refl) a.flag,
                (
                  free_form T k word.Assert (codes "diagnostics") (λ value. refl) (id_list a.diagnostics),
                  (free_form T k word.Assert (codes "properties") (λ value. refl) (id_list a.properties), tt),
                ),
              ),
            ),
          ),
        ),
      ) refl refl in
      clean_element T formed ordered ways walks scopes in_scope k word.Assert [] [] r.place sound r.word refl
      (message_clean T formed ordered ways walks scopes in_scope k word.Assert (codes "assert") attributes a.message r r.word refl refl good.some)
  assertion-as p place is k true a good up kid items same =
      let attributes : List (List ℕ × Option (List ℕ)) = assertion_attributes a in
      let message = flat_map part_events a.message in
      let r = read_element T formed ways walks scopes in_scope p k (codes "report") attributes message place up kid items (holds_some part_events part_holds a.message) refl same in
      let sound = sound_inside T formed ordered ways walks scopes in_scope k (codes "report") attributes message word.Report word.Rule r (record { parent = p; up = up; word = is }) r.word
      (record { held = refl; no_schema = refl; concrete = refl; all_given = refl }) (
        free_form T k word.Report (codes "id") (λ value. refl) a.id,
        (
          refl,
          (
            free_form T k word.Report (codes "subject") (λ value. refl) a.subject,
            (
              free_form T k word.Report (codes "role") (λ value. refl) a.role,
              (
                free_form T k word.Report (codes "flag") (λ value. refl) a.flag,
                (
                  free_form T k word.Report (codes "diagnostics") (λ value. refl) (id_list a.diagnostics),
                  (free_form T k word.Report (codes "properties") (λ value. refl) (id_list a.properties), tt),
                ),
              ),
            ),
          ),
        ),
      ) refl refl in
      clean_element T formed ordered ways walks scopes in_scope k word.Report [] [] r.place sound r.word refl
      (message_clean T formed ordered ways walks scopes in_scope k word.Report (codes "report") attributes a.message r r.word refl refl good.some)

  assertion-clean : (p : ℕ) → Place T p → word_at T p ≡ Some word.Rule → (k : ℕ) (assertion : Assertion) → ReadableAssertion assertion →
      CleanKid T p assertion_events (uses_none {A = Assertion}) k assertion
  assertion-clean p place is k a good up kid items same = assertion-as p place is k a.report a good up kid items same

  rule-clean : (p : ℕ) → Place T p → word_at T p ≡ Some word.Pattern → (k : ℕ) (rule : FlatRule) → ReadableRule rule × AllowedRule rule →
      CleanKid T p rule_events (uses_none {A = FlatRule}) k rule
  unfolding xmlns_prefix word_of
  rule-clean p place is k rule ok up kid items same =
      let attributes : List (List ℕ × Option (List ℕ)) = rule_attributes rule in
      let lets = flat_map let_events rule.lets in
      let assertions = flat_map assertion_events rule.assertions in
      let r = read_element T formed ways walks scopes in_scope p k (codes "rule") attributes (lets ++ assertions) place up kid items
      (holds_append lets assertions (holds_all let_events let_chunk rule.lets) (holds_all assertion_events assertion_chunk rule.assertions)) refl same in
      let t1 = take_pairs T let_events let_chunk (kids_of T k) items rule.lets (said assertions) (r.kids ∙ said_append lets assertions) in
      let t2 = take_pairs T assertion_events assertion_chunk t1.back t1.items rule.assertions [] (t1.left ∙ sym (append-nil (said assertions))) in
      let are : kids_of T k ≡ t1.front ++ t2.front =
      t1.parts ∙ ap (λ l. t1.front ++ l) (t2.parts ∙ ap (λ l. t2.front ++ l) (none_left T t2.back t2.items t2.left) ∙ append-nil t2.front) in
      let split = kids_parts T k t1.front t2.front (subst (AreKids T k) are (are_kids T formed ways walks scopes in_scope k)) in
      let first = clean_quiet T AllowedLet let_events k (let_clean T formed ordered ways walks scopes in_scope k word.Rule r.place r.word refl) t1.front rule.lets ok.1 split.0 t1.pairs in
      let last = clean_quiet T ReadableAssertion assertion_events k (assertion-clean k r.place r.word) t2.front rule.assertions ok.0 split.1 t2.pairs in
      let concrete : is_true (said_at T k (codes "abstract")) ≡ false = ap is_true (r.says (codes "abstract")) in
      let sound = sound_inside T formed ordered ways walks scopes in_scope k (codes "rule") attributes (lets ++ assertions) word.Rule word.Pattern r (record { parent = p; up = up; word = is }) r.word
      (record { held = refl; no_schema = refl; concrete = refl; all_given = refl }) (
        free_form T k word.Rule (codes "id") (rule-form T k (codes "id") concrete refl) rule.id,
        (
          rule-form T k (codes "context") concrete refl rule.context,
          (
            free_form T k word.Rule (codes "subject") (rule-form T k (codes "subject") concrete refl) rule.subject,
            (
              free_form T k word.Rule (codes "role") (rule-form T k (codes "role") concrete refl) rule.role,
              (free_form T k word.Rule (codes "flag") (rule-form T k (codes "flag") concrete refl) rule.flag, tt),
            ),
          ),
        ),
      ) refl refl in
      clean_element T formed ordered ways walks scopes in_scope k word.Rule [] [] r.place sound r.word
      (ap (λ (b : Bool). cond b (keys_for named.AbstractRule 0 (said_at T k (codes "id"))) []) concrete)
      (subst (λ l. Clean T l []) (sym (below_parts T (kids_of T k) t1.front t2.front are)) (clean_append T (flat_map (below T) t1.front) (flat_map (below T) t2.front) [] [] first last))

  pub pattern_clean : (p : ℕ) → Place T p → word_at T p ≡ Some word.Schema → (k : ℕ) (pattern : FlatPattern) → ReadablePattern pattern × AllowedPattern pattern →
      CleanKid T p pattern_events pattern_names k pattern
  unfolding xmlns_prefix word_of
  pattern_clean p place is k pattern ok up kid items same =
      let attributes : List (List ℕ × Option (List ℕ)) = (codes "id", pattern.id) ∷ [] in
      let lets = flat_map let_events pattern.lets in
      let rules = flat_map rule_events pattern.rules in
      let r = read_element T formed ways walks scopes in_scope p k (codes "pattern") attributes (lets ++ rules) place up kid items
      (holds_append lets rules (holds_all let_events let_chunk pattern.lets) (holds_all rule_events rule_chunk pattern.rules)) refl same in
      let t1 = take_pairs T let_events let_chunk (kids_of T k) items pattern.lets (said rules) (r.kids ∙ said_append lets rules) in
      let t2 = take_pairs T rule_events rule_chunk t1.back t1.items pattern.rules [] (t1.left ∙ sym (append-nil (said rules))) in
      let are : kids_of T k ≡ t1.front ++ t2.front =
      t1.parts ∙ ap (λ l. t1.front ++ l) (t2.parts ∙ ap (λ l. t2.front ++ l) (none_left T t2.back t2.items t2.left) ∙ append-nil t2.front) in
      let split = kids_parts T k t1.front t2.front (subst (AreKids T k) are (are_kids T formed ways walks scopes in_scope k)) in
      let let_words = all_words T word.Let let_events k (λ j x a b c e. (let_read T formed ways walks scopes in_scope k j x r.place a b c e).word) t1.front pattern.lets split.0 t1.pairs in
      let rule_words = all_words T word.Rule rule_events k (rule_word T formed ordered ways walks scopes in_scope k r.place) t2.front pattern.rules split.1 t2.pairs in
      let no_param : has_kid T k word.Param ≡ false =
      ap (list_any (λ j. is_word word.Param (word_at T j))) are
      ∙ list_any-append (λ j. is_word word.Param (word_at T j)) t1.front t2.front
      ∙ ap₂ (λ a b. a || b) (no-kid T word.Param word.Let refl t1.front let_words) (no-kid T word.Param word.Rule refl t2.front rule_words) in
      let unmixed : mixed T k (Some word.Pattern) ≡ None =
      ap (λ (v : Option (List ℕ)). cond (is_some v) (mixed_instance T k) (cond (has_kid T k word.Param) (Some (codes "param")) None)) (r.says (codes "is-a"))
      ∙ ap (λ (b : Bool). cond b (Some (codes "param")) None) no_param in
      let supported : unsupported T k (Some word.Pattern) ≡ None = ap (λ (v : Option (List ℕ)). cond (is_some v) (Some (codes "documents")) None) (r.says (codes "documents")) in
      let first = clean_quiet T AllowedLet let_events k (let_clean T formed ordered ways walks scopes in_scope k word.Pattern r.place r.word refl) t1.front pattern.lets ok.1.lets split.0 t1.pairs in
      let last = clean_quiet T (λ (x : FlatRule). ReadableRule x × AllowedRule x) rule_events k (rule-clean k r.place r.word) t2.front pattern.rules (both ReadableRule AllowedRule pattern.rules ok.0 ok.1.rules) split.1 t2.pairs in
      let sound = sound_inside T formed ordered ways walks scopes in_scope k (codes "pattern") attributes (lets ++ rules) word.Pattern word.Schema r (record { parent = p; up = up; word = is }) r.word
      (record { held = refl; no_schema = refl; concrete = refl; all_given = refl }) (pattern-id k pattern.id ok.1.id, tt) supported unmixed in
      subst (Clean T (below T k)) (append-nil (pattern_names pattern))
      (clean_element T formed ordered ways walks scopes in_scope k word.Pattern (pattern_names pattern) [] r.place sound r.word (ap (keys_for named.Pattern 0) (r.says (codes "id")) ∙ id-names pattern.id)
      (subst (λ l. Clean T l []) (sym (below_parts T (kids_of T k) t1.front t2.front are)) (clean_append T (flat_map (below T) t1.front) (flat_map (below T) t2.front) [] [] first last)))
    where
      pattern-id : (n : ℕ) (id : Option (List ℕ)) → Each IsName (option_to_list id) → FormOf T n word.Pattern (codes "id") id
      pattern-id n None names = tt
      pattern-id n (Some value) names = name_form value names.0

      id-names : (id : Option (List ℕ)) → keys_for named.Pattern 0 id ≡ keys_of_kind named.Pattern (option_to_list id)
      id-names None = refl
      id-names (Some value) = refl

  -- a diagnostic or a property, and the element that holds them
  note-sound : (kind : Notes) (p k : ℕ) (d : Diagnostic) → IsName d.id → Read T k (note_local kind) ((codes "id", Some d.id) ∷ []) (flat_map part_events d.message) →
      parent_of T k ≡ Some p → word_at T p ≡ Some (group_of kind) → Sound T k
  unfolding xmlns_prefix word_of
  note-sound diagnostics p k d name r up is =
      sound_inside T formed ordered ways walks scopes in_scope k (codes "diagnostic") ((codes "id", Some d.id) ∷ []) (flat_map part_events d.message) word.Diagnostic word.Diagnostics r
      (record { parent = p; up = up; word = is }) r.word (record { held = refl; no_schema = refl; concrete = refl; all_given = refl }) (name_form d.id name, tt) refl refl
  note-sound properties p k d name r up is =
      sound_inside T formed ordered ways walks scopes in_scope k (codes "property") ((codes "id", Some d.id) ∷ []) (flat_map part_events d.message) word.Property word.Properties r
      (record { parent = p; up = up; word = is }) r.word (record { held = refl; no_schema = refl; concrete = refl; all_given = refl }) (name_form d.id name, tt) refl refl

  group-sound : (kind : Notes) (p k : ℕ) (held : List Event) → Read T k (group_local kind) [] held → parent_of T k ≡ Some p → word_at T p ≡ Some word.Schema → Sound T k
  unfolding xmlns_prefix word_of
  group-sound diagnostics p k held r up is =
      sound_inside T formed ordered ways walks scopes in_scope k (codes "diagnostics") [] held word.Diagnostics word.Schema r (record { parent = p; up = up; word = is }) r.word
      (record { held = refl; no_schema = refl; concrete = refl; all_given = refl }) tt refl refl
  group-sound properties p k held r up is =
      sound_inside T formed ordered ways walks scopes in_scope k (codes "properties") [] held word.Properties word.Schema r (record { parent = p; up = up; word = is }) r.word
      (record { held = refl; no_schema = refl; concrete = refl; all_given = refl }) tt refl refl

  -- the names that they use
  note-used : (kind : Notes) (k : ℕ) (d : Diagnostic) → said_at T k (codes "id") ≡ Some d.id → keys_of T k (Some (note_of kind)) ≡ note_names kind d
  note-used diagnostics k d says = ap (keys_for named.Diagnostic 0) says
  note-used properties k d says = ap (keys_for named.Property 0) says

  group-used : (kind : Notes) (k : ℕ) → keys_of T k (Some (group_of kind)) ≡ []
  group-used diagnostics k = refl
  group-used properties k = refl

  note-clean : (kind : Notes) (p : ℕ) → Place T p → word_at T p ≡ Some (group_of kind) → (k : ℕ) (d : Diagnostic) → ReadableDiagnostic d × AllowedDiagnostic d →
      CleanKid T p (note_events (note_name kind)) (note_names kind) k d
  unfolding xmlns_prefix
  note-clean kind p place is k d ok up kid items same =
      let its = known kind in
      let attributes : List (List ℕ × Option (List ℕ)) = (codes "id", Some d.id) ∷ [] in
      let message = flat_map part_events d.message in
      let r = read_element T formed ways walks scopes in_scope p k (note_local kind) attributes message place up kid items (holds_some part_events part_holds d.message) refl same in
      let own : word_at T k ≡ Some (note_of kind) = r.word ∙ its.note in
      clean_element T formed ordered ways walks scopes in_scope k (note_of kind) (note_names kind d) [] r.place (note-sound kind p k d ok.1 r up is) own (note-used kind k d (r.says (codes "id")))
      (message_clean T formed ordered ways walks scopes in_scope k (note_of kind) (note_local kind) attributes d.message r own its.holds_value its.holds_name ok.0.some)

  pub notes_clean : (kind : Notes) (p : ℕ) → Place T p → word_at T p ≡ Some word.Schema → (k : ℕ) (ds : List Diagnostic) → Each (λ (d : Diagnostic). ReadableDiagnostic d × AllowedDiagnostic d) ds →
      CleanKid T p (notes_element kind) (notes_names kind) k ds
  notes_clean kind p place is k ds ok up kid items same =
      let events = note_events (note_name kind) in
      let held = flat_map events ds in
      let r = read_element T formed ways walks scopes in_scope p k (group_local kind) [] held place up kid items (notes_hold kind ds) refl same in
      let own : word_at T k ≡ Some (group_of kind) = r.word ∙ (known kind).group in
      let taken = take_pairs T events (note_chunk (note_name kind)) (kids_of T k) items ds [] (r.kids ∙ sym (append-nil (said held))) in
      let are : kids_of T k ≡ taken.front = taken.parts ∙ ap (λ l. taken.front ++ l) (none_left T taken.back taken.items taken.left) ∙ append-nil taken.front in
      let kids = clean_kids T (λ (d : Diagnostic). ReadableDiagnostic d × AllowedDiagnostic d) events (note_names kind) k (note-clean kind k r.place own) taken.front ds ok
      (subst (AreKids T k) are (are_kids T formed ways walks scopes in_scope k)) taken.pairs in
      clean_element T formed ordered ways walks scopes in_scope k (group_of kind) [] (notes_names kind ds) r.place (group-sound kind p k held r up is) own (group-used kind k)
      (subst (λ l. Clean T (flat_map (below T) l) (notes_names kind ds)) (sym are) kids)

  -- the text of a title
  title-kids : (k : ℕ) (title : List ℕ) → Read T k (codes "title") [] (characters title) → Items T (kids_of T k) → Clean T (flat_map (below T) (kids_of T k)) []
  title-kids k [] r items = clean_empty T formed ordered ways walks scopes in_scope k items r.kids
  title-kids k (byte ∷ text) r items =
      let taken = take_if T part_events is_some_part part_chunk (kids_of T k) items (Chars (byte ∷ text) ∷ []) refl [] r.kids in
      let are : kids_of T k ≡ taken.front = taken.parts ∙ ap (λ l. taken.front ++ l) (none_left T taken.back taken.items taken.left) ∙ append-nil taken.front in
      subst (λ l. Clean T (flat_map (below T) l) []) (sym are) (one taken.front (subst (AreKids T k) are (are_kids T formed ways walks scopes in_scope k)) taken.pairs)
    where
      one : (ks : List ℕ) → AreKids T k ks → Pairs T part_events ks (Chars (byte ∷ text) ∷ []) → Clean T (flat_map (below T) ks) []
      one [] kids pairs = absurd pairs
      one (j ∷ i ∷ ks) kids pairs = absurd pairs.1
      one (j ∷ []) kids pairs =
          clean_append T (below T j) [] [] [] (text_clean T formed ordered ways walks scopes in_scope k j byte text r.place kids.0.0 kids.0.1 pairs.0) (clean_nil T)

  pub title_clean : (p : ℕ) → Place T p → word_at T p ≡ Some word.Schema → (k : ℕ) (title : List ℕ) → Unit {0} → CleanKid T p title_element title_names k title
  unfolding xmlns_prefix word_of
  title_clean p place is k title ok up kid items same =
      let r = read_element T formed ways walks scopes in_scope p k (codes "title") [] (characters title) place up kid items (holds_characters title) refl same in
      let above : word_above T k ≡ Some word.Schema = ap (option_and_then (word_at T)) up ∙ is in
      let sound = sound_inside T formed ordered ways walks scopes in_scope k (codes "title") [] (characters title) word.Title word.Schema r (record { parent = p; up = up; word = is }) r.word
      (record { held = refl; no_schema = refl; concrete = refl; all_given = refl }) tt refl refl in
      clean_element T formed ordered ways walks scopes in_scope k word.Title (title_names title) [] r.place sound r.word
      (ap (λ (v : Option Word). cond (is_word word.Schema v) (keys_for named.Title 0 (Some (codes "title"))) []) above)
      (title-kids k title r items)
