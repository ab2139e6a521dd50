-- No name that is read of a document that breaks no rule is used twice.
use Rattle.std.proofs.Common.{◌≡◌, ℕ, ◌==◌, Bool, true, false, not, cond, List, [], ◌∷◌, ◌++◌, Option, None, Some, map, refl, sym, ap, ap₂, ◌∙◌, subst, append-nil}
use Rattle.std.specs.List.{IsDistinct, flat_map}
use Rattle.std.specs.Option.{option_to_list}
use Rattle.std.specs.Prelude.{codes, filter}
use Rattle.std.specs.Str.{bytes_eq}
use Rattle.std.proofs.lemmas.Grind.{flat_map-append}
use Rattle.doc_table.proofs.ListLemmas.{mem-head, mem-tail}
use Rattle.doc_tree.specs.Laws.{HasWaysUp, Ordered, WellFormed}
use Rattle.doc_tree.specs.Lists.{mem}
use Rattle.doc_tree.specs.Table.{Table, attrs_of, kids_of}
use Rattle.doc_tree.specs.Walks.{below, order}
use Rattle.sch_model.specs.declared.parts.Diagnostic.{Diagnostic}
use Rattle.sch_model.specs.declared.parts.Ns.{Ns}
use Rattle.sch_model.specs.declared.parts.Phase.{Phase}
use Rattle.sch_model.specs.declared.raw.RawPattern.{RawPattern}
use Rattle.sch_model.specs.declared.raw.RawSchema.{RawSchema}
use Rattle.sch_rules.specs.declared.named.Named.{Named}
use Rattle.sch_rules.specs.declared.named.Named.TheVariants as named
use Rattle.sch_rules.specs.declared.word.Word.{Word}
use Rattle.sch_rules.specs.declared.word.Word.TheVariants as word
use Rattle.sch_rules.specs.Attributes.{said}
use Rattle.sch_rules.specs.Elements.{document_element, word_at}
use Rattle.sch_rules.specs.FirstBroken.{first_broken}
use Rattle.sch_rules.specs.Keys.{Key, keys_at, keys_for, keys_of, kind_rank}
use Rattle.sch_rules.specs.RawSchema.{diagnostic_of, notes_at, ns_of, pattern_of, phase_of, raw_schema, read_if, read_kids}
use Rattle.sch_rules.specs.Words.{is_word}
use Rattle.sch_expansion.specs.Flat.{concrete_patterns, flat_pattern, flat_schema}
use Rattle.sch_flat_laws.specs.Allowed.{Allowed, pattern_ids}
use Rattle.sch_flat_laws.proofs.Reading.Notes.{Notes, diagnostics, group_of, named_as, note_of, properties}
use Rattle.sch_flat_laws.proofs.Rules.AllowedParts.{lets_allowed, notes_allowed, ns_allowed, patterns_allowed, patterns_stand, phases_allowed}
use Rattle.sch_flat_laws.proofs.Rules.Counting.{Counted, document_counted, held, kid_counted}
use Rattle.sch_flat_laws.proofs.Rules.KeyLemmas.{keys_of_kind, keys_append, one_each}
use Rattle.sch_flat_laws.proofs.Rules.Runs.{Differ, Within, differ_within, kind_distinct, new_differ, within_both, within_front, within_later, within_more}
use Rattle.sch_flat_laws.proofs.Rules.Saying.{present}
use Rattle.sch_flat_laws.proofs.Rules.Standing.{flat_id}
use Rattle.sch_flat_laws.proofs.Rules.Unbroken.{new_over}
use Rattle.sch_flat_laws.proofs.Rules.WordLemmas.{the_word}

-- ids of flat patterns: those of the patterns that aren't abstract
abbrev raw-ids : List RawPattern → List (List ℕ)
raw-ids patterns = flat_map (λ (x : RawPattern). option_to_list x.id) patterns

flat-ids : (schema : RawSchema) (patterns : List RawPattern) → flat_map pattern_ids (map (flat_pattern schema) patterns) ≡ raw-ids patterns
flat-ids schema [] = refl
flat-ids schema (x ∷ patterns) = ap₂ (λ id l. option_to_list id ++ l) (flat_id schema x) (flat-ids schema patterns)

all-within : {A : Type 0} (xs : List A) → Within xs xs
all-within xs = subst (Within xs) (append-nil xs) (within_front xs [])

kept-within : (kind : Named) (test : RawPattern → Bool) (patterns : List RawPattern) → Within (keys_of_kind kind (raw-ids (filter test patterns))) (keys_of_kind kind (raw-ids patterns))
kept-within kind test [] = tt
kept-within kind test (x ∷ patterns) =
    subst (Within (keys_of_kind kind (raw-ids (filter test (x ∷ patterns))))) (sym (keys_append kind (option_to_list x.id) (raw-ids patterns)))
    (by (test x) (kept-within kind test patterns))
  where
    by : (b : Bool) → Within (keys_of_kind kind (raw-ids (filter test patterns))) (keys_of_kind kind (raw-ids patterns)) →
        Within (keys_of_kind kind (raw-ids (cond b (x ∷ filter test patterns) (filter test patterns)))) (keys_of_kind kind (option_to_list x.id) ++ keys_of_kind kind (raw-ids patterns))
    by true rest =
        subst (λ l. Within l (keys_of_kind kind (option_to_list x.id) ++ keys_of_kind kind (raw-ids patterns))) (sym (keys_append kind (option_to_list x.id) (raw-ids (filter test patterns))))
        (within_both (keys_of_kind kind (option_to_list x.id)) (keys_of_kind kind (option_to_list x.id)) (keys_of_kind kind (raw-ids (filter test patterns))) (keys_of_kind kind (raw-ids patterns))
        (all-within (keys_of_kind kind (option_to_list x.id))) rest)
    by false rest = within_later (keys_of_kind kind (raw-ids (filter test patterns))) (keys_of_kind kind (option_to_list x.id)) (keys_of_kind kind (raw-ids patterns)) rest

named-keys : (kind : Named) (name : Option (List ℕ)) → keys_for kind 0 name ≡ keys_of_kind kind (option_to_list name)
named-keys kind None = refl
named-keys kind (Some name) = refl

module _ (T : Table) (formed : WellFormed T) (ordered : Ordered T) (ways : HasWaysUp T) (none : first_broken T ≡ None) where
  abbrev keys-below : ℕ → List Key
  keys-below n = flat_map (keys_at T) (below T n)

  -- the names of an element stand in front of those below it
  keys-parts : (n : ℕ) → keys-below n ≡ keys_at T n ++ (flat_map (keys_at T) (attrs_of T n) ++ flat_map (keys_at T) (flat_map (below T) (kids_of T n)))
  keys-parts n = ap (flat_map (keys_at T)) (ordered.below_at n) ∙ ap (λ l. keys_at T n ++ l) (flat_map-append (keys_at T) (attrs_of T n) (flat_map (below T) (kids_of T n)))

  own-within : (n : ℕ) → Within (keys_at T n) (keys-below n)
  own-within n =
      subst (Within (keys_at T n)) (sym (keys-parts n))
      (within_front (keys_at T n) (flat_map (keys_at T) (attrs_of T n) ++ flat_map (keys_at T) (flat_map (below T) (kids_of T n))))

  kids-within : (n : ℕ) (keys : List Key) → Within keys (flat_map (keys_at T) (flat_map (below T) (kids_of T n))) → Within keys (keys-below n)
  kids-within n keys h =
      subst (Within keys) (sym (keys-parts n))
      (within_later keys (keys_at T n) (flat_map (keys_at T) (attrs_of T n) ++ flat_map (keys_at T) (flat_map (below T) (kids_of T n)))
      (within_later keys (flat_map (keys_at T) (attrs_of T n)) (flat_map (keys_at T) (flat_map (below T) (kids_of T n))) h))

  -- the names of what is read of kids, among all names below them
  over-kids : {A : Type 0} (kind : Named) (names : A → List (List ℕ)) (read : ℕ → List A) (n : ℕ) →
      ((k : ℕ) → mem k (kids_of T n) ≡ true → Within (keys_of_kind kind (flat_map names (read k))) (keys-below k)) →
      (ks : List ℕ) → ((k : ℕ) → mem k ks ≡ true → mem k (kids_of T n) ≡ true) → Within (keys_of_kind kind (flat_map names (flat_map read ks))) (flat_map (keys_at T) (flat_map (below T) ks))
  over-kids kind names read n each [] within = tt
  over-kids kind names read n each (k ∷ ks) within =
      let is : keys_of_kind kind (flat_map names (read k ++ flat_map read ks)) ≡ keys_of_kind kind (flat_map names (read k)) ++ keys_of_kind kind (flat_map names (flat_map read ks)) =
      ap (keys_of_kind kind) (flat_map-append names (read k) (flat_map read ks)) ∙ keys_append kind (flat_map names (read k)) (flat_map names (flat_map read ks)) in
      subst (λ l. Within l (flat_map (keys_at T) (below T k ++ flat_map (below T) ks))) (sym is)
      (subst (Within (keys_of_kind kind (flat_map names (read k)) ++ keys_of_kind kind (flat_map names (flat_map read ks)))) (sym (flat_map-append (keys_at T) (below T k) (flat_map (below T) ks)))
      (within_both (keys_of_kind kind (flat_map names (read k))) (keys-below k) (keys_of_kind kind (flat_map names (flat_map read ks))) (flat_map (keys_at T) (flat_map (below T) ks))
      (each k (within k (mem-head k ks))) (over-kids kind names read n each ks (λ j h. within j (mem-tail j k ks h)))))

  -- the name of an element that is read
  one-read : {A : Type 0} (kind : Named) (names : A → List (List ℕ)) (w : Word) (read : ℕ → A) (n : ℕ) → Counted T n →
      ((k : ℕ) → Counted T k → word_at T k ≡ Some w → keys_of T k (Some w) ≡ keys_of_kind kind (names (read k))) →
      (k : ℕ) → mem k (kids_of T n) ≡ true → Within (keys_of_kind kind (flat_map names (read_if T w read k))) (keys-below k)
  one-read kind names w read n counted used k member = by (is_word w (word_at T k)) refl
    where
      by : (b : Bool) → is_word w (word_at T k) ≡ b → Within (keys_of_kind kind (flat_map names (cond b (read k ∷ []) []))) (keys-below k)
      by true e =
          let is = the_word w (word_at T k) e in
          let here = kid_counted T formed ordered ways none n k w counted member is in
          let own : keys_at T k ≡ keys_of_kind kind (names (read k)) =
          ap (λ (b : Bool). cond b [] (keys_of T k (word_at T k))) here.counts ∙ ap (keys_of T k) is ∙ used k here is in
          subst (λ l. Within l (keys-below k)) (own ∙ ap (keys_of_kind kind) (sym (append-nil (names (read k))))) (own-within k)
      by false e = tt

  pub read_within : {A : Type 0} (kind : Named) (names : A → List (List ℕ)) (w : Word) (read : ℕ → A) (n : ℕ) → Counted T n →
      ((k : ℕ) → Counted T k → word_at T k ≡ Some w → keys_of T k (Some w) ≡ keys_of_kind kind (names (read k))) →
      Within (keys_of_kind kind (flat_map names (read_kids T w read n))) (keys-below n)
  read_within kind names w read n counted used =
      kids-within n (keys_of_kind kind (flat_map names (read_kids T w read n)))
      (over-kids kind names (read_if T w read) n (one-read kind names w read n counted used) (kids_of T n) (λ k h. h))

  -- all names below a node differ
  names-differ : (n : ℕ) → Counted T n → (keys : List Key) → Within keys (keys-below n) → Differ keys
  names-differ n counted keys h =
      let parts = ordered.below_in_order n counted.live in
      let all : flat_map (keys_at T) (order T) ≡ flat_map (keys_at T) parts.0 ++ (keys-below n ++ flat_map (keys_at T) parts.1) =
      ap (flat_map (keys_at T)) parts.2
      ∙ flat_map-append (keys_at T) parts.0 (below T n ++ parts.1)
      ∙ ap (λ l. flat_map (keys_at T) parts.0 ++ l) (flat_map-append (keys_at T) (below T n) parts.1) in
      differ_within keys (flat_map (keys_at T) (order T))
      (subst (Within keys) (sym all)
      (within_later keys (flat_map (keys_at T) parts.0) (keys-below n ++ flat_map (keys_at T) parts.1) (within_more keys (keys-below n) (flat_map (keys_at T) parts.1) h)))
      (new_differ [] (flat_map (keys_at T) (order T)) (new_over T [] (order T) none))

  -- the diagnostics, and the properties
  abbrev note_ids : Diagnostic → List (List ℕ)
  note_ids note = note.id ∷ []

  note-keys : (kind : Notes) (k : ℕ) → Counted T k → word_at T k ≡ Some (note_of kind) → keys_of T k (Some (note_of kind)) ≡ keys_of_kind (named_as kind) (note_ids (diagnostic_of T k))
  note-keys diagnostics k counted is =
      ap (keys_for named.Diagnostic 0) (present T k (codes "id") [] (held T formed ordered ways none k word.Diagnostic counted.live counted.counts is).given).says
  note-keys properties k counted is =
      ap (keys_for named.Property 0) (present T k (codes "id") [] (held T formed ordered ways none k word.Property counted.live counted.counts is).given).says

  one-notes : (kind : Notes) (n : ℕ) → Counted T n → (k : ℕ) → mem k (kids_of T n) ≡ true →
      Within (keys_of_kind (named_as kind) (flat_map note_ids (notes_at T (group_of kind) (note_of kind) k))) (keys-below k)
  one-notes kind n counted k member = by (is_word (group_of kind) (word_at T k)) refl
    where
      by : (b : Bool) → is_word (group_of kind) (word_at T k) ≡ b →
          Within (keys_of_kind (named_as kind) (flat_map note_ids (cond b (read_kids T (note_of kind) (diagnostic_of T) k) []))) (keys-below k)
      by true e =
          read_within (named_as kind) note_ids (note_of kind) (diagnostic_of T) k
          (kid_counted T formed ordered ways none n k (group_of kind) counted member (the_word (group_of kind) (word_at T k) e)) (note-keys kind)
      by false e = tt

  notes-differ : (kind : Notes) → (kind_rank (named_as kind) == kind_rank (named_as kind)) ≡ true → (n : ℕ) → Counted T n →
      IsDistinct bytes_eq (map (λ (x : Diagnostic). x.id) (flat_map (notes_at T (group_of kind) (note_of kind)) (kids_of T n)))
  notes-differ kind own n counted =
      let notes = flat_map (notes_at T (group_of kind) (note_of kind)) (kids_of T n) in
      subst (IsDistinct bytes_eq) (one_each (λ (x : Diagnostic). x.id) notes)
      (kind_distinct (named_as kind) own (flat_map note_ids notes)
      (names-differ n counted _
      (kids-within n _
      (over-kids (named_as kind) note_ids (notes_at T (group_of kind) (note_of kind)) n (one-notes kind n counted) (kids_of T n) (λ k h. h)))))

  ns-keys : (k : ℕ) → Counted T k → word_at T k ≡ Some word.Ns → keys_of T k (Some word.Ns) ≡ keys_of_kind named.Prefix ((ns_of T k).prefix ∷ [])
  ns-keys k counted is =
      ap (keys_for named.Prefix 0) (present T k (codes "prefix") (codes "uri" ∷ []) (held T formed ordered ways none k word.Ns counted.live counted.counts is).given).says

  phase-keys : (k : ℕ) → Counted T k → word_at T k ≡ Some word.Phase → keys_of T k (Some word.Phase) ≡ keys_of_kind named.Phase ((phase_of T k).id ∷ [])
  phase-keys k counted is =
      ap (keys_for named.Phase 0) (present T k (codes "id") [] (held T formed ordered ways none k word.Phase counted.live counted.counts is).given).says

  pattern-keys : (k : ℕ) → Counted T k → word_at T k ≡ Some word.Pattern → keys_of T k (Some word.Pattern) ≡ keys_of_kind named.Pattern (option_to_list (pattern_of T k).id)
  pattern-keys k counted is = named-keys named.Pattern (said T k (codes "id"))

  -- the schema that is read
  pub allowed : Allowed (flat_schema (raw_schema T))
  allowed =
      let d = document_element T in
      let counted = document_counted T formed ordered ways none in
      let schema = raw_schema T in
      record {
        ns = ns_allowed T formed ordered ways none d counted;
        lets = lets_allowed T formed ordered ways none d counted;
        phases = phases_allowed T formed ordered ways none d counted;
        patterns = patterns_stand schema (patterns_allowed T formed ordered ways none d counted);
        diagnostics = notes_allowed T formed ordered ways none diagnostics d counted;
        properties = notes_allowed T formed ordered ways none properties d counted;
        prefixes_differ = subst (IsDistinct bytes_eq) (one_each (λ (x : Ns). x.prefix) schema.ns)
            (kind_distinct named.Prefix refl (flat_map (λ (x : Ns). x.prefix ∷ []) schema.ns)
            (names-differ d counted _ (read_within named.Prefix (λ (x : Ns). x.prefix ∷ []) word.Ns (ns_of T) d counted ns-keys)));
        phases_differ = subst (IsDistinct bytes_eq) (one_each (λ (x : Phase). x.id) schema.phases)
            (kind_distinct named.Phase refl (flat_map (λ (x : Phase). x.id ∷ []) schema.phases)
            (names-differ d counted _ (read_within named.Phase (λ (x : Phase). x.id ∷ []) word.Phase (phase_of T) d counted phase-keys)));
        patterns_differ = subst (IsDistinct bytes_eq) (sym (flat-ids schema (concrete_patterns schema)))
            (kind_distinct named.Pattern refl (raw-ids (concrete_patterns schema))
            (differ_within (keys_of_kind named.Pattern (raw-ids (concrete_patterns schema))) (keys_of_kind named.Pattern (raw-ids schema.patterns))
            (kept-within named.Pattern (λ (pattern : RawPattern). not pattern.is_abstract) schema.patterns)
            (names-differ d counted _ (read_within named.Pattern (λ (x : RawPattern). option_to_list x.id) word.Pattern (pattern_of T) d counted pattern-keys))));
        diagnostics_differ = notes-differ diagnostics refl d counted;
        properties_differ = notes-differ properties refl d counted;
      }
