-- What the document element holds, as it is read.
use Rattle.std.proofs.Common.{◌≡◌, ℕ, Bool, true, false, cond, List, [], ◌∷◌, ◌++◌, Some, map, refl, sym, ap, ◌∙◌, subst, append-nil}
use Rattle.std.specs.List.{flat_map}
use Rattle.std.specs.Prelude.{codes}
use Rattle.std.specs.Option.{option_to_list}
use Rattle.std.proofs.lemmas.Grind.{flat_map-append}
use Rattle.doc_tree.specs.Kinds.{can_be_kid}
use Rattle.doc_tree.specs.Laws.{HasWaysUp, Walks, WellFormed}
use Rattle.doc_tree.specs.Scope.{HasScopes, xmlns_prefix}
use Rattle.doc_tree.specs.Table.{Table, kids_of, kind_of, parent_of}
use Rattle.name_scopes.specs.Scoping.{InScope}
use Rattle.pyx_core.specs.declared.event.Event.{Event}
use Rattle.sch_model.specs.declared.flat.FlatPattern.{FlatPattern}
use Rattle.sch_model.specs.declared.flat.FlatSchema.{FlatSchema}
use Rattle.sch_model.specs.declared.parts.Active.{Active}
use Rattle.sch_model.specs.declared.parts.Diagnostic.{Diagnostic}
use Rattle.sch_model.specs.declared.parts.LetDecl.{LetDecl}
use Rattle.sch_model.specs.declared.parts.Phase.{Phase}
use Rattle.sch_rules.specs.declared.word.Word.{Word}
use Rattle.sch_rules.specs.declared.word.Word.TheVariants as word
use Rattle.sch_rules.specs.Elements.{word_at}
use Rattle.sch_rules.specs.RawSchema.{active_of, let_of, phase_of, read_if, read_kids}
use Rattle.sch_rules.specs.Words.{is_word, word_of}
use Rattle.sch_flat.specs.FlatDocument.{active_events, characters, diagnostics_events, held_events, let_events, note_events, ns_events, pattern_events, phase_events, properties_events, rule_events, title_events}
use Rattle.sch_model.specs.Placeless.{placeless_active, placeless_let, placeless_phase}
use Rattle.sch_flat_laws.proofs.Reading.Document.{are_kids, kid_items, notes_chunk, notes_element, notes_hold, notes_is, some_list, title_chunk, title_element, title_is}
use Rattle.sch_flat_laws.proofs.Reading.EventBlocks.{active_chunk, holds_all, holds_append, holds_characters, let_chunk, ns_chunk, pattern_chunk, phase_chunk, rule_chunk, said, said_append}
use Rattle.sch_flat_laws.proofs.Reading.Kids.{Items, Pairs, none_left, take_pairs}
use Rattle.sch_flat_laws.proofs.Reading.Leaves.{AreKids, ReadAs, active_read, all_read, let_read, read_all}
use Rattle.sch_flat_laws.proofs.Reading.Notes.{Notes, group_local, group_of, known, note_name}
use Rattle.sch_flat_laws.proofs.Reading.Notes as kind
use Rattle.sch_flat_laws.proofs.Reading.Places.{Place, read_element}
use Rattle.sch_flat_laws.proofs.Reading.TreeBlocks.{told}

pub kids_parts : (T : Table) (n : ℕ) (xs ys : List ℕ) → AreKids T n (xs ++ ys) → AreKids T n xs × AreKids T n ys
kids_parts T n [] ys kids = (tt, kids)
kids_parts T n (x ∷ xs) ys kids = let parts = kids_parts T n xs ys kids.1 in ((kids.0, parts.0), parts.1)

-- each of the nodes is the element
abbrev pub AllWords : Table → Word → List ℕ → Type 0
AllWords T w [] = Unit {0}
AllWords T w (k ∷ ks) = (word_at T k ≡ Some w) × AllWords T w ks

pub all_words : {A : Type 0} (T : Table) (w : Word) (f : A → List Event) (p : ℕ) →
    ((k : ℕ) (x : A) → parent_of T k ≡ Some p → can_be_kid (kind_of T k) ≡ true → Items T (kids_of T k) → told T k ≡ said (f x) → word_at T k ≡ Some w) →
    (ks : List ℕ) (xs : List A) → AreKids T p ks → Pairs T f ks xs → AllWords T w ks
all_words T w f p each [] [] kids pairs = tt
all_words T w f p each [] (x ∷ xs) kids pairs = absurd pairs
all_words T w f p each (k ∷ ks) [] kids pairs = absurd pairs
all_words T w f p each (k ∷ ks) (x ∷ xs) kids pairs = (each k x kids.0.0 kids.0.1 kids.0.2 pairs.0, all_words T w f p each ks xs kids.1 pairs.1)

-- other elements give nothing
pub none_of : {A : Type 0} (T : Table) (w other : Word) (read : ℕ → A) → is_word w (Some other) ≡ false → (ks : List ℕ) → AllWords T other ks → flat_map (read_if T w read) ks ≡ []
none_of T w other read differs [] all = refl
none_of T w other read differs (k ∷ ks) all =
    ap (λ (b : Bool). cond b (read k ∷ []) [] ++ flat_map (read_if T w read) ks) (ap (is_word w) all.0 ∙ differs)
    ∙ none_of T w other read differs ks all.1

pub skip : {A : Type 0} (g : ℕ → List A) (xs ys : List ℕ) → flat_map g xs ≡ [] → flat_map g (xs ++ ys) ≡ flat_map g ys
skip g xs ys h = flat_map-append g xs ys ∙ ap (λ l. l ++ flat_map g ys) h

pub stop : {A : Type 0} (g : ℕ → List A) (xs ys : List ℕ) → flat_map g ys ≡ [] → flat_map g (xs ++ ys) ≡ flat_map g xs
stop g xs ys h = flat_map-append g xs ys ∙ ap (λ l. flat_map g xs ++ l) h ∙ append-nil (flat_map g xs)

pub both_none : {A : Type 0} (g : ℕ → List A) (xs ys : List ℕ) → flat_map g xs ≡ [] → flat_map g ys ≡ [] → flat_map g (xs ++ ys) ≡ []
both_none g xs ys h k = skip g xs ys h ∙ k

-- the kids of the document element
pub record Pieces (T : Table) (d : ℕ) (schema : FlatSchema) : Type 0 where
  pub titles : List ℕ
  pub ns : List ℕ
  pub lets : List ℕ
  pub phases : List ℕ
  pub patterns : List ℕ
  pub diagnostics : List ℕ
  pub properties : List ℕ
  pub are : kids_of T d ≡ titles ++ (ns ++ (lets ++ (phases ++ (patterns ++ (diagnostics ++ properties)))))
  pub title_pairs : Pairs T title_element titles (option_to_list schema.head.title)
  pub ns_pairs : Pairs T ns_events ns schema.ns
  pub let_pairs : Pairs T let_events lets schema.lets
  pub phase_pairs : Pairs T phase_events phases schema.phases
  pub pattern_pairs : Pairs T pattern_events patterns schema.patterns
  pub diagnostics_pairs : Pairs T (notes_element kind.diagnostics) diagnostics (some_list schema.diagnostics)
  pub property_pairs : Pairs T (notes_element kind.properties) properties (some_list schema.properties)

module _ (T : Table) (formed : WellFormed T) (ways : HasWaysUp T) (walks : Walks T) (scopes : HasScopes T) (in_scope : InScope T) where
  pub pieces : (d : ℕ) (schema : FlatSchema) → flat_map (told T) (kids_of T d) ≡ said (held_events schema) → Pieces T d schema
  pieces d schema kids =
      let r6 = diagnostics_events schema.diagnostics ++ properties_events schema.properties in
      let r5 = flat_map pattern_events schema.patterns ++ r6 in
      let r4 = flat_map phase_events schema.phases ++ r5 in
      let r3 = flat_map let_events schema.lets ++ r4 in
      let r2 = flat_map ns_events schema.ns ++ r3 in
      let t1 = take_pairs T title_element title_chunk (kids_of T d) (kid_items T formed ways walks scopes in_scope d) (option_to_list schema.head.title) (said r2)
      (kids ∙ said_append (title_events schema.head.title) r2 ∙ ap (λ l. said l ++ said r2) (title_is schema.head.title)) in
      let t2 = take_pairs T ns_events ns_chunk t1.back t1.items schema.ns (said r3) (t1.left ∙ said_append (flat_map ns_events schema.ns) r3) in
      let t3 = take_pairs T let_events let_chunk t2.back t2.items schema.lets (said r4) (t2.left ∙ said_append (flat_map let_events schema.lets) r4) in
      let t4 = take_pairs T phase_events phase_chunk t3.back t3.items schema.phases (said r5) (t3.left ∙ said_append (flat_map phase_events schema.phases) r5) in
      let t5 = take_pairs T pattern_events pattern_chunk t4.back t4.items schema.patterns (said r6) (t4.left ∙ said_append (flat_map pattern_events schema.patterns) r6) in
      let t6 = take_pairs T (notes_element kind.diagnostics) (notes_chunk kind.diagnostics) t5.back t5.items (some_list schema.diagnostics) (said (properties_events schema.properties))
      (t5.left ∙ said_append (diagnostics_events schema.diagnostics) (properties_events schema.properties)
      ∙ ap (λ l. said l ++ said (properties_events schema.properties)) (notes_is kind.diagnostics schema.diagnostics)) in
      let t7 = take_pairs T (notes_element kind.properties) (notes_chunk kind.properties) t6.back t6.items (some_list schema.properties) []
      (t6.left ∙ ap said (notes_is kind.properties schema.properties) ∙ sym (append-nil (said (flat_map (notes_element kind.properties) (some_list schema.properties))))) in
      record {
        titles = t1.front;
        ns = t2.front;
        lets = t3.front;
        phases = t4.front;
        patterns = t5.front;
        diagnostics = t6.front;
        properties = t7.front;
        are = t1.parts
            ∙ ap (λ l. t1.front ++ l) (t2.parts
            ∙ ap (λ l. t2.front ++ l) (t3.parts
            ∙ ap (λ l. t3.front ++ l) (t4.parts
            ∙ ap (λ l. t4.front ++ l) (t5.parts
            ∙ ap (λ l. t5.front ++ l) (t6.parts
            ∙ ap (λ l. t6.front ++ l) (t7.parts ∙ ap (λ l. t7.front ++ l) (none_left T t7.back t7.items t7.left) ∙ append-nil t7.front))))));
        title_pairs = t1.pairs;
        ns_pairs = t2.pairs;
        let_pairs = t3.pairs;
        phase_pairs = t4.pairs;
        pattern_pairs = t5.pairs;
        diagnostics_pairs = t6.pairs;
        property_pairs = t7.pairs;
      }

  pub title_word : (p k : ℕ) (title : List ℕ) → Place T p → parent_of T k ≡ Some p → can_be_kid (kind_of T k) ≡ true → Items T (kids_of T k) →
      told T k ≡ said (title_element title) → word_at T k ≡ Some word.Title
  unfolding xmlns_prefix word_of
  title_word p k title place up kid items same =
      (read_element T formed ways walks scopes in_scope p k (codes "title") [] (characters title) place up kid items (holds_characters title) refl same).word

  pub pattern_word : (p k : ℕ) (pattern : FlatPattern) → Place T p → parent_of T k ≡ Some p → can_be_kid (kind_of T k) ≡ true → Items T (kids_of T k) →
      told T k ≡ said (pattern_events pattern) → word_at T k ≡ Some word.Pattern
  unfolding xmlns_prefix word_of
  pattern_word p k pattern place up kid items same =
      (read_element T formed ways walks scopes in_scope p k (codes "pattern") ((codes "id", pattern.id) ∷ []) (flat_map let_events pattern.lets ++ flat_map rule_events pattern.rules) place up kid items
      (holds_append (flat_map let_events pattern.lets) (flat_map rule_events pattern.rules) (holds_all let_events let_chunk pattern.lets) (holds_all rule_events rule_chunk pattern.rules)) refl same).word

  pub notes_word : (notes : Notes) (p k : ℕ) (ds : List Diagnostic) → Place T p → parent_of T k ≡ Some p → can_be_kid (kind_of T k) ≡ true → Items T (kids_of T k) →
      told T k ≡ said (notes_element notes ds) → word_at T k ≡ Some (group_of notes)
  notes_word notes p k ds place up kid items same =
      (read_element T formed ways walks scopes in_scope p k (group_local notes) [] (flat_map (note_events (note_name notes)) ds) place up kid items (notes_hold notes ds) refl same).word
      ∙ (known notes).group

  -- a phase
  with_parts : Phase → List LetDecl → List Active → Phase
  with_parts phase lets active = record { node = 0; id = phase.id; lets = lets; active = active }

  pub phase_read : (p k : ℕ) (phase : Phase) → Place T p → parent_of T k ≡ Some p → can_be_kid (kind_of T k) ≡ true → Items T (kids_of T k) →
      told T k ≡ said (phase_events phase) → ReadAs T word.Phase (phase_of T) placeless_phase k phase
  unfolding xmlns_prefix word_of with_parts
  phase_read p k phase place up kid items same =
      let lets = flat_map let_events phase.lets in
      let actives = flat_map active_events phase.active in
      let r = read_element T formed ways walks scopes in_scope p k (codes "phase") ((codes "id", Some phase.id) ∷ []) (lets ++ actives) place up kid items
      (holds_append lets actives (holds_all let_events let_chunk phase.lets) (holds_all active_events active_chunk phase.active)) refl same in
      let t1 = take_pairs T let_events let_chunk (kids_of T k) items phase.lets (said actives) (r.kids ∙ said_append lets actives) in
      let t2 = take_pairs T active_events active_chunk t1.back t1.items phase.active [] (t1.left ∙ sym (append-nil (said actives))) in
      let are : kids_of T k ≡ t1.front ++ t2.front =
      t1.parts ∙ ap (λ l. t1.front ++ l) (t2.parts ∙ ap (λ l. t2.front ++ l) (none_left T t2.back t2.items t2.left) ∙ append-nil t2.front) in
      let split = kids_parts T k t1.front t2.front (subst (AreKids T k) are (are_kids T formed ways walks scopes in_scope k)) in
      let let_all = all_read T word.Let (let_of T) placeless_let let_events k (λ j x. let_read T formed ways walks scopes in_scope k j x r.place) t1.front phase.lets split.0 t1.pairs in
      let active_all = all_read T word.Active (active_of T) placeless_active active_events k (λ j x. active_read T formed ways walks scopes in_scope k j x r.place) t2.front phase.active split.1 t2.pairs in
      let let_words = all_words T word.Let let_events k (λ j x a b c e. (let_read T formed ways walks scopes in_scope k j x r.place a b c e).word) t1.front phase.lets split.0 t1.pairs in
      let active_words = all_words T word.Active active_events k (λ j x a b c e. (active_read T formed ways walks scopes in_scope k j x r.place a b c e).word) t2.front phase.active split.1 t2.pairs in
      let lets_are : map placeless_let (read_kids T word.Let (let_of T) k) ≡ map placeless_let phase.lets =
      ap (λ l. map placeless_let (flat_map (read_if T word.Let (let_of T)) l)) are
      ∙ ap (map placeless_let) (stop (read_if T word.Let (let_of T)) t1.front t2.front (none_of T word.Let word.Active (let_of T) refl t2.front active_words))
      ∙ read_all T word.Let (let_of T) placeless_let refl t1.front phase.lets let_all in
      let actives_are : map placeless_active (read_kids T word.Active (active_of T) k) ≡ map placeless_active phase.active =
      ap (λ l. map placeless_active (flat_map (read_if T word.Active (active_of T)) l)) are
      ∙ ap (map placeless_active) (skip (read_if T word.Active (active_of T)) t1.front t2.front (none_of T word.Active word.Let (active_of T) refl t1.front let_words))
      ∙ read_all T word.Active (active_of T) placeless_active refl t2.front phase.active active_all in
      record {
        word = r.word;
        same = rw (r.says (codes "id")) (ap (λ l. with_parts phase l (map placeless_active (read_kids T word.Active (active_of T) k))) lets_are ∙ ap (with_parts phase (map placeless_let phase.lets)) actives_are);
      }
