-- The whole document of a schema breaks no rule.
use Rattle.std.proofs.Common.{◌≡◌, ℕ, Bool, true, false, not, ◌&&◌, ◌||◌, cond, List, [], ◌∷◌, ◌++◌, Option, None, Some, map, refl, sym, ap, ap₂, ◌∙◌, subst, append-nil}
use Rattle.std.specs.List.{IsDistinct, flat_map, list_any}
use Rattle.std.specs.Option.{option_to_list}
use Rattle.std.specs.Prelude.{codes, option_map}
use Rattle.std.specs.Str.{bytes_eq}
use Rattle.std.proofs.lemmas.Grind.{flat_map-append}
use Rattle.doc_table.proofs.ListLemmas.{mem-head}
use Rattle.doc_tree.specs.Laws.{HasWaysUp, Ordered, Walks, WellFormed}
use Rattle.doc_tree.specs.Lists.{mem}
use Rattle.doc_tree.specs.Scope.{HasScopes}
use Rattle.doc_tree.specs.Table.{Name, Table, attrs_of, content_of, is_root, kids_of}
use Rattle.doc_tree.specs.Walks.{below, order}
use Rattle.name_scopes.specs.ScopedTree.{Scoped}
use Rattle.name_scopes.specs.Scoping.{InScope}
use Rattle.sch_model.specs.declared.flat.FlatPattern.{FlatPattern}
use Rattle.sch_model.specs.declared.flat.FlatSchema.{FlatSchema}
use Rattle.sch_model.specs.declared.parts.Diagnostic.{Diagnostic}
use Rattle.sch_model.specs.declared.parts.Ns.{Ns}
use Rattle.sch_model.specs.declared.parts.Phase.{Phase}
use Rattle.sch_rules.specs.declared.named.Named.{Named}
use Rattle.sch_rules.specs.declared.named.Named.TheVariants as named
use Rattle.sch_rules.specs.declared.word.Word.TheVariants as word
use Rattle.sch_rules.specs.Elements.{element_name, is_at_top, is_foreign, local_at, word_above, word_at}
use Rattle.sch_rules.specs.FirstBroken.{first_broken}
use Rattle.sch_rules.specs.Keys.{Key, is_taken}
use Rattle.sch_rules.specs.Rules.{other_binding}
use Rattle.sch_rules.specs.Words.{may_hold, word_of}
use Rattle.sch_flat.specs.FlatDocument.{flat_events, let_events, ns_events, pattern_events, phase_events}
use Rattle.sch_flat_laws.specs.Readable.{Each, ReadableDiagnostic, ReadablePattern, ReadableSchema}
use Rattle.sch_flat_laws.proofs.Reading.Document.{Found, found, no_attributes, notes_element, plain_attributes_of, plain_names, root_is, some_list, title_element}
use Rattle.sch_flat_laws.proofs.Reading.Front.{words}
use Rattle.sch_flat_laws.proofs.Reading.Notes.{Notes, named_as}
use Rattle.sch_flat_laws.proofs.Reading.Notes as kind
use Rattle.sch_flat_laws.proofs.Reading.Schema.{Pieces, pieces}
use Rattle.sch_flat_laws.specs.Allowed.{Allowed, AllowedDiagnostic, AllowedLet, AllowedNs, AllowedPattern, AllowedPhase, pattern_ids}
use Rattle.sch_flat_laws.proofs.Rules.Elements.{clean_element, clean_kids, clean_quiet}
use Rattle.sch_flat_laws.proofs.Rules.Forms.{AllForms, free_form, well_formed}
use Rattle.sch_flat_laws.proofs.Rules.KeyLemmas.{AllNew, all_free, key_of, keys_of_kind, keys_over, new_append, new_kind, other_kind, untaken_append}
use Rattle.sch_flat_laws.proofs.Rules.Parts.{let_clean, no_rule, ns_clean, ns_names, phase_clean, phase_names}
use Rattle.sch_flat_laws.proofs.Rules.PatternRules.{both, notes_clean, notes_names, pattern_clean, pattern_names, title_clean, title_names}
use Rattle.sch_flat_laws.proofs.Rules.Sound.{Clean, Sound, clean_append, none_over, plain_node, sound_as}

-- the names that a schema uses, as its document tells them
abbrev schema_names : FlatSchema → List Key
schema_names schema =
    flat_map title_names (option_to_list schema.head.title)
    ++ (flat_map ns_names schema.ns
    ++ (flat_map phase_names schema.phases
    ++ (flat_map pattern_names schema.patterns
    ++ (flat_map (notes_names kind.diagnostics) (some_list schema.diagnostics)
    ++ flat_map (notes_names kind.properties) (some_list schema.properties)))))

-- the same, kind by kind
abbrev titles : Option (List ℕ) → List (List ℕ)
titles title = map (λ (x : List ℕ). codes "title") (option_to_list title)

abbrev kinds : FlatSchema → List Key
kinds schema =
    keys_of_kind named.Title (titles schema.head.title)
    ++ (keys_of_kind named.Prefix (map (λ (x : Ns). x.prefix) schema.ns)
    ++ (keys_of_kind named.Phase (map (λ (x : Phase). x.id) schema.phases)
    ++ (keys_of_kind named.Pattern (flat_map pattern_ids schema.patterns)
    ++ (keys_of_kind named.Diagnostic (map (λ (x : Diagnostic). x.id) schema.diagnostics)
    ++ keys_of_kind named.Property (map (λ (x : Diagnostic). x.id) schema.properties)))))

each-kind : {A : Type 0} (kind : Named) (name : A → List ℕ) (xs : List A) → flat_map (λ (x : A). key_of kind (name x) ∷ []) xs ≡ keys_of_kind kind (map name xs)
each-kind kind name [] = refl
each-kind kind name (x ∷ xs) = ap (λ l. key_of kind (name x) ∷ l) (each-kind kind name xs)

notes-kind : (notes : Notes) (ds : List Diagnostic) → flat_map (notes_names notes) (some_list ds) ≡ keys_of_kind (named_as notes) (map (λ (x : Diagnostic). x.id) ds)
notes-kind notes [] = refl
notes-kind notes (d ∷ ds) = append-nil (notes_names notes (d ∷ ds)) ∙ each-kind (named_as notes) (λ (x : Diagnostic). x.id) (d ∷ ds)

names-are : (schema : FlatSchema) → schema_names schema ≡ kinds schema
names-are schema =
    let notes = flat_map (notes_names kind.diagnostics) (some_list schema.diagnostics) ++ flat_map (notes_names kind.properties) (some_list schema.properties) in
    let a = each-kind named.Title (λ (x : List ℕ). codes "title") (option_to_list schema.head.title) in
    let b = each-kind named.Prefix (λ (x : Ns). x.prefix) schema.ns in
    let c = each-kind named.Phase (λ (x : Phase). x.id) schema.phases in
    let d = keys_over named.Pattern pattern_ids schema.patterns in
    let e = ap₂ (λ l m. l ++ m) (notes-kind kind.diagnostics schema.diagnostics) (notes-kind kind.properties schema.properties) in
    ap (λ l. l ++ (flat_map ns_names schema.ns ++ (flat_map phase_names schema.phases ++ (flat_map pattern_names schema.patterns ++ notes)))) a
    ∙ ap (λ l. keys_of_kind named.Title (titles schema.head.title) ++ l)
    (ap (λ l. l ++ (flat_map phase_names schema.phases ++ (flat_map pattern_names schema.patterns ++ notes))) b
    ∙ ap (λ l. keys_of_kind named.Prefix (map (λ (x : Ns). x.prefix) schema.ns) ++ l)
    (ap (λ l. l ++ (flat_map pattern_names schema.patterns ++ notes)) c
    ∙ ap (λ l. keys_of_kind named.Phase (map (λ (x : Phase). x.id) schema.phases) ++ l)
    (ap (λ l. l ++ notes) d
    ∙ ap (λ l. keys_of_kind named.Pattern (flat_map pattern_ids schema.patterns) ++ l) e)))

one-title : (title : Option (List ℕ)) → IsDistinct bytes_eq (titles title)
unfolding IsDistinct
one-title None = tt
one-title (Some title) = (tt, tt)

-- each of them is new
all-new : (schema : FlatSchema) → Allowed schema → AllNew [] (kinds schema)
all-new schema allowed =
    let A = keys_of_kind named.Title (titles schema.head.title) in
    let prefixes = map (λ (x : Ns). x.prefix) schema.ns in
    let phases = map (λ (x : Phase). x.id) schema.phases in
    let patterns = flat_map pattern_ids schema.patterns in
    let diagnostics = map (λ (x : Diagnostic). x.id) schema.diagnostics in
    let B = keys_of_kind named.Prefix prefixes in
    let C = keys_of_kind named.Phase phases in
    let D = keys_of_kind named.Pattern patterns in
    let E = keys_of_kind named.Diagnostic diagnostics in
    let properties = map (λ (x : Diagnostic). x.id) schema.properties in
    let F = keys_of_kind named.Property properties in
    let free_a : (name : List ℕ) → is_taken [] (key_of named.Title name) ≡ false = λ name. refl in
    let free_b : (name : List ℕ) → is_taken A (key_of named.Prefix name) ≡ false = other_kind named.Prefix named.Title refl (titles schema.head.title) in
    let free_c : (name : List ℕ) → is_taken (A ++ B) (key_of named.Phase name) ≡ false = λ name.
    untaken_append A B (key_of named.Phase name)
    (other_kind named.Phase named.Title refl (titles schema.head.title) name) (other_kind named.Phase named.Prefix refl prefixes name) in
    let free_d : (name : List ℕ) → is_taken ((A ++ B) ++ C) (key_of named.Pattern name) ≡ false = λ name.
    untaken_append (A ++ B) C (key_of named.Pattern name)
    (untaken_append A B (key_of named.Pattern name)
    (other_kind named.Pattern named.Title refl (titles schema.head.title) name) (other_kind named.Pattern named.Prefix refl prefixes name))
    (other_kind named.Pattern named.Phase refl phases name) in
    let free_e : (name : List ℕ) → is_taken (((A ++ B) ++ C) ++ D) (key_of named.Diagnostic name) ≡ false = λ name.
    untaken_append ((A ++ B) ++ C) D (key_of named.Diagnostic name)
    (untaken_append (A ++ B) C (key_of named.Diagnostic name)
    (untaken_append A B (key_of named.Diagnostic name)
    (other_kind named.Diagnostic named.Title refl (titles schema.head.title) name) (other_kind named.Diagnostic named.Prefix refl prefixes name))
    (other_kind named.Diagnostic named.Phase refl phases name))
    (other_kind named.Diagnostic named.Pattern refl patterns name) in
    let free_f : (name : List ℕ) → is_taken ((((A ++ B) ++ C) ++ D) ++ E) (key_of named.Property name) ≡ false = λ name.
    untaken_append (((A ++ B) ++ C) ++ D) E (key_of named.Property name)
    (untaken_append ((A ++ B) ++ C) D (key_of named.Property name)
    (untaken_append (A ++ B) C (key_of named.Property name)
    (untaken_append A B (key_of named.Property name)
    (other_kind named.Property named.Title refl (titles schema.head.title) name) (other_kind named.Property named.Prefix refl prefixes name))
    (other_kind named.Property named.Phase refl phases name))
    (other_kind named.Property named.Pattern refl patterns name))
    (other_kind named.Property named.Diagnostic refl diagnostics name) in
    new_append [] A (B ++ (C ++ (D ++ (E ++ F)))) (new_kind named.Title [] (titles schema.head.title) (all_free named.Title [] free_a (titles schema.head.title)) (one-title schema.head.title))
    (new_append A B (C ++ (D ++ (E ++ F))) (new_kind named.Prefix A prefixes (all_free named.Prefix A free_b prefixes) allowed.prefixes_differ)
    (new_append (A ++ B) C (D ++ (E ++ F)) (new_kind named.Phase (A ++ B) phases (all_free named.Phase (A ++ B) free_c phases) allowed.phases_differ)
    (new_append ((A ++ B) ++ C) D (E ++ F) (new_kind named.Pattern ((A ++ B) ++ C) patterns (all_free named.Pattern ((A ++ B) ++ C) free_d patterns) allowed.patterns_differ)
    (new_append (((A ++ B) ++ C) ++ D) E F
    (new_kind named.Diagnostic (((A ++ B) ++ C) ++ D) diagnostics (all_free named.Diagnostic (((A ++ B) ++ C) ++ D) free_e diagnostics) allowed.diagnostics_differ)
    (new_kind named.Property ((((A ++ B) ++ C) ++ D) ++ E) properties (all_free named.Property ((((A ++ B) ++ C) ++ D) ++ E) free_f properties) allowed.properties_differ)))))

some-good : (ds : List Diagnostic) → Each (λ (d : Diagnostic). ReadableDiagnostic d × AllowedDiagnostic d) ds →
    Each (Each (λ (d : Diagnostic). ReadableDiagnostic d × AllowedDiagnostic d)) (some_list ds)
some-good [] good = tt
some-good (d ∷ ds) good = (good, tt)

module _ (T : Table) (formed : WellFormed T) (ordered : Ordered T) (ways : HasWaysUp T) (walks : Walks T) (scopes : HasScopes T) (in_scope : InScope T) where
  -- the document element
  top-sound : (schema : FlatSchema) (f : Found T schema) → word_at T f.node ≡ Some word.Schema → is_at_top T f.node ≡ true → Sound T f.node
  top-sound schema f is top =
      let d = f.node in
      let forms : AllForms T d word.Schema (plain_attributes_of schema) = (
        refl,
        (
          free_form T d word.Schema (codes "schemaVersion") (λ value. refl) schema.head.schema_version,
          (free_form T d word.Schema (codes "defaultPhase") (λ value. refl) schema.head.default_phase, tt),
        ),
      ) in
      sound_as T d word.Schema f.place.counts is (record {
        top = ap (λ (b : Bool). cond (b && false) (option_map (λ (name : Name). name.local) (element_name (content_of T d))) None) top;
        binding = ap other_binding (f.says (codes "queryBinding"));
        placed = ap (λ (b : Bool). cond (not (b || may_hold (word_above T d) (Some word.Schema))) (local_at T d) None) top;
        supported = refl;
        given = refl;
        formed = well_formed T d word.Schema (plain_attributes_of schema) f.own (plain_names schema) forms;
        unmixed = refl;
      })

  held-clean : (schema : FlatSchema) → ReadableSchema schema → Allowed schema → (f : Found T schema) → word_at T f.node ≡ Some word.Schema →
      Clean T (flat_map (below T) (kids_of T f.node)) (schema_names schema)
  held-clean schema good allowed f is =
      let d = f.node in
      let p = pieces T formed ways walks scopes in_scope d schema f.kids in
      let w = words T formed ways walks scopes in_scope schema f p in
      let titles_all = clean_kids T (λ (x : List ℕ). Unit {0}) title_element title_names d (title_clean T formed ordered ways walks scopes in_scope d f.place is)
      p.titles (option_to_list schema.head.title) (no_rule (option_to_list schema.head.title)) w.title_kids p.title_pairs in
      let ns_all = clean_kids T AllowedNs ns_events ns_names d (ns_clean T formed ordered ways walks scopes in_scope d f.place is) p.ns schema.ns allowed.ns w.ns_kids p.ns_pairs in
      let lets_all = clean_quiet T AllowedLet let_events d (let_clean T formed ordered ways walks scopes in_scope d word.Schema f.place is refl) p.lets schema.lets allowed.lets w.let_kids p.let_pairs in
      let phases_all = clean_kids T AllowedPhase phase_events phase_names d (phase_clean T formed ordered ways walks scopes in_scope d f.place is) p.phases schema.phases allowed.phases w.phase_kids p.phase_pairs in
      let patterns_all = clean_kids T (λ (x : FlatPattern). ReadablePattern x × AllowedPattern x) pattern_events pattern_names d (pattern_clean T formed ordered ways walks scopes in_scope d f.place is)
      p.patterns schema.patterns (both ReadablePattern AllowedPattern schema.patterns good.patterns allowed.patterns) w.pattern_kids p.pattern_pairs in
      let diagnostics_all = clean_kids T (Each (λ (x : Diagnostic). ReadableDiagnostic x × AllowedDiagnostic x)) (notes_element kind.diagnostics) (notes_names kind.diagnostics) d
      (notes_clean T formed ordered ways walks scopes in_scope kind.diagnostics d f.place is) p.diagnostics (some_list schema.diagnostics)
      (some-good schema.diagnostics (both ReadableDiagnostic AllowedDiagnostic schema.diagnostics good.diagnostics allowed.diagnostics)) w.diagnostics_kids p.diagnostics_pairs in
      let properties_all = clean_kids T (Each (λ (x : Diagnostic). ReadableDiagnostic x × AllowedDiagnostic x)) (notes_element kind.properties) (notes_names kind.properties) d
      (notes_clean T formed ordered ways walks scopes in_scope kind.properties d f.place is) p.properties (some_list schema.properties)
      (some-good schema.properties (both ReadableDiagnostic AllowedDiagnostic schema.properties good.properties allowed.properties)) w.property_kids p.property_pairs in
      subst (λ l. Clean T l (schema_names schema)) (sym (all-parts p))
      (clean_append T _ _ _ _ titles_all
      (clean_append T _ _ _ _ ns_all
      (clean_append T _ _ [] _ lets_all
      (clean_append T _ _ _ _ phases_all
      (clean_append T _ _ _ _ patterns_all
      (clean_append T _ _ _ _ diagnostics_all properties_all))))))
    where
      all-parts : (p : Pieces T f.node schema) → flat_map (below T) (kids_of T f.node)
          ≡ flat_map (below T) p.titles ++ (flat_map (below T) p.ns ++ (flat_map (below T) p.lets ++ (flat_map (below T) p.phases ++ (flat_map (below T) p.patterns ++ (flat_map (below T) p.diagnostics ++ flat_map (below T) p.properties)))))
      all-parts p =
          ap (flat_map (below T)) p.are
          ∙ flat_map-append (below T) p.titles (p.ns ++ (p.lets ++ (p.phases ++ (p.patterns ++ (p.diagnostics ++ p.properties)))))
          ∙ ap (λ l. flat_map (below T) p.titles ++ l) (flat_map-append (below T) p.ns (p.lets ++ (p.phases ++ (p.patterns ++ (p.diagnostics ++ p.properties))))
          ∙ ap (λ l. flat_map (below T) p.ns ++ l) (flat_map-append (below T) p.lets (p.phases ++ (p.patterns ++ (p.diagnostics ++ p.properties)))
          ∙ ap (λ l. flat_map (below T) p.lets ++ l) (flat_map-append (below T) p.phases (p.patterns ++ (p.diagnostics ++ p.properties))
          ∙ ap (λ l. flat_map (below T) p.phases ++ l) (flat_map-append (below T) p.patterns (p.diagnostics ++ p.properties)
          ∙ ap (λ l. flat_map (below T) p.patterns ++ l) (flat_map-append (below T) p.diagnostics p.properties)))))

  document-clean : (schema : FlatSchema) → ReadableSchema schema → Allowed schema → Found T schema → Clean T (order T) (schema_names schema)
  unfolding word_of
  document-clean schema good allowed f =
      let d = f.node in
      let member : mem d (kids_of T 0) ≡ true = ap (mem d) f.alone ∙ mem-head d [] in
      let top : is_at_top T d ≡ true = ap is_root (formed.kid_parent 0 d member) in
      let element_clean = clean_element T formed ordered ways walks scopes in_scope d word.Schema [] (schema_names schema) f.place (top-sound schema f f.word top) f.word refl (held-clean schema good allowed f f.word) in
      let counts = ap (list_any (is_foreign T)) (ways.no_ancestors 0 formed.root_parent) in
      let root_clean = plain_node T 0 counts (ap element_name (root_is T formed ways walks scopes in_scope)) in
      subst (λ l. Clean T l (schema_names schema)) (sym (ordered.below_at 0))
      (clean_append T (0 ∷ []) (attrs_of T 0 ++ flat_map (below T) (kids_of T 0)) [] (schema_names schema) root_clean
      (subst (λ l. Clean T l (schema_names schema)) (sym (rest d f.alone)) element_clean))
    where
      rest : (d : ℕ) → kids_of T 0 ≡ d ∷ [] → attrs_of T 0 ++ flat_map (below T) (kids_of T 0) ≡ below T d
      rest d alone =
          ap (λ l. l ++ flat_map (below T) (kids_of T 0)) (no_attributes T formed ways walks scopes in_scope (attrs_of T 0) (λ a h. h))
          ∙ ap (flat_map (below T)) alone
          ∙ append-nil (below T d)

  -- no rule is broken
  pub breaks_none : (schema : FlatSchema) → Scoped (flat_events schema) T → ReadableSchema schema → Allowed schema → first_broken T ≡ None
  breaks_none schema scoped good allowed =
      let clean = document-clean schema good allowed (found T formed ways walks scopes in_scope schema scoped) in
      none_over T [] (order T) clean.sound (subst (AllNew []) (sym (clean.uses ∙ names-are schema)) (all-new schema allowed))
