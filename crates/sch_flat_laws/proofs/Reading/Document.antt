-- The document element of a schema's document, and what it holds.
use Rattle.std.proofs.Common.{◌≡◌, ℕ, Bool, true, false, ◌||◌, cond, List, [], ◌∷◌, ◌++◌, Option, None, Some, map, find, refl, sym, ap, ◌∙◌, subst, append-nil}
use Rattle.std.specs.List.{flat_map, list_any}
use Rattle.std.specs.Prelude.{codes}
use Rattle.std.specs.Option.{option_to_list}
use Rattle.doc_table.proofs.ListLemmas.{mem-head, mem-tail}
use Rattle.doc_tree.specs.kind.Kind.TheVariants as kind
use Rattle.doc_tree.specs.Kinds.{is_element}
use Rattle.doc_tree.specs.Laws.{HasWaysUp, Walks, WellFormed}
use Rattle.doc_tree.specs.Lines.{lines_at, first_lines, last_lines, opens}
use Rattle.doc_tree.specs.Lists.{mem}
use Rattle.doc_tree.specs.Scope.{Decl, HasScopes, scope_at, xmlns_prefix}
use Rattle.doc_tree.specs.Table.{Table, Content, root, element, attribute, text, comment, instruction, attrs_of, content_of, decls_at, decls_of, kids_of, kind_at, kind_of}
use Rattle.name_scopes.specs.Declarations.{declarations, plain_attrs}
use Rattle.name_scopes.specs.ScopedTree.{Scoped, attribute_line, unscoped}
use Rattle.name_scopes.specs.Scoping.{InScope}
use Rattle.pyx_core.specs.declared.event.Attr.{Attr}
use Rattle.pyx_core.specs.declared.event.Event.{Event}
use Rattle.sch_model.specs.declared.flat.FlatSchema.{FlatSchema}
use Rattle.sch_model.specs.declared.parts.Diagnostic.{Diagnostic}
use Rattle.sch_rules.specs.Attributes.{said as said_at}
use Rattle.sch_rules.specs.Elements.{document_element, element_name, first_or, is_foreign, is_other_name, word_at}
use Rattle.sch_rules.specs.Words.{word_of}
use Rattle.sch_flat.specs.FlatDocument.{characters, diagnostics_events, element as sch_element, flat_events, held_events, let_events, note_events, notes_events, ns_events, only_given, pattern_events, phase_events, title_events}
use Rattle.sch_flat_laws.proofs.Reading.Attributes.{SayAll, given_in, given_is, said_is, say_all, all_plain, are_plain}
use Rattle.sch_flat_laws.proofs.Reading.Elements.{is_element as is_flat_element}
use Rattle.sch_flat_laws.proofs.Reading.EventBlocks.{Chunk, Holds, chunk_element, holds_all, holds_append, holds_characters, let_chunk, note_chunk, ns_chunk, pattern_chunk, phase_chunk, said}
use Rattle.sch_flat_laws.proofs.Reading.Kids.{Items, Pairs, Taken, none_left, take_pairs}
use Rattle.sch_flat_laws.proofs.Reading.Leaves.{AreKids}
use Rattle.sch_flat_laws.proofs.Reading.Notes.{Notes, diagnostics, group_name, note_name, properties}
use Rattle.sch_flat_laws.proofs.Reading.Places.{Place, named_element, sch_scope, word_named}
use Rattle.sch_flat_laws.proofs.Reading.TreeBlocks.{kid_block, told, told_at}

-- the title, the diagnostics and the properties as elements, of which there is one or none
abbrev pub title_element : List ℕ → List Event
title_element title = sch_element (codes "sch:title") [] (characters title)

abbrev pub notes_element : Notes → List Diagnostic → List Event
notes_element kind notes = sch_element (group_name kind) [] (flat_map (note_events (note_name kind)) notes)

abbrev pub some_list : List Diagnostic → List (List Diagnostic)
some_list [] = []
some_list (d ∷ ds) = (d ∷ ds) ∷ []

pub title_is : (title : Option (List ℕ)) → title_events title ≡ flat_map title_element (option_to_list title)
title_is None = refl
title_is (Some title) = sym (append-nil (title_element title))

pub notes_is : (kind : Notes) (notes : List Diagnostic) → notes_events (group_name kind) (note_name kind) notes ≡ flat_map (notes_element kind) (some_list notes)
notes_is kind [] = refl
notes_is kind (d ∷ ds) = sym (append-nil (notes_element kind (d ∷ ds)))

pub title_chunk : (title : List ℕ) → Chunk (title_element title)
title_chunk title = chunk_element (codes "sch:title") [] (characters title) (holds_characters title)

pub notes_hold : (kind : Notes) (notes : List Diagnostic) → Holds (flat_map (note_events (note_name kind)) notes)
notes_hold kind notes = holds_all (note_events (note_name kind)) (note_chunk (note_name kind)) notes

pub notes_chunk : (kind : Notes) (notes : List Diagnostic) → Chunk (notes_element kind notes)
notes_chunk kind notes = chunk_element (group_name kind) [] (flat_map (note_events (note_name kind)) notes) (notes_hold kind notes)

title-holds : (title : Option (List ℕ)) → Holds (title_events title)
title-holds title = subst Holds (sym (title_is title)) (holds_all title_element title_chunk (option_to_list title))

notes-hold : (kind : Notes) (notes : List Diagnostic) → Holds (notes_events (group_name kind) (note_name kind) notes)
notes-hold kind notes = subst Holds (sym (notes_is kind notes)) (holds_all (notes_element kind) (notes_chunk kind) (some_list notes))

pub held_holds : (schema : FlatSchema) → Holds (held_events schema)
held_holds schema =
    holds_append (title_events schema.head.title) _ (title-holds schema.head.title)
    (holds_append (flat_map ns_events schema.ns) _ (holds_all ns_events ns_chunk schema.ns)
    (holds_append (flat_map let_events schema.lets) _ (holds_all let_events let_chunk schema.lets)
    (holds_append (flat_map phase_events schema.phases) _ (holds_all phase_events phase_chunk schema.phases)
    (holds_append (flat_map pattern_events schema.patterns) _ (holds_all pattern_events pattern_chunk schema.patterns)
    (holds_append (diagnostics_events schema.diagnostics) _ (notes-hold diagnostics schema.diagnostics) (notes-hold properties schema.properties))))))

pub schema_chunk : (schema : FlatSchema) → Chunk (flat_events schema)
schema_chunk schema = chunk_element (codes "sch:schema") _ (held_events schema) (held_holds schema)

abbrev pub plain_attributes_of : FlatSchema → List (List ℕ × Option (List ℕ))
plain_attributes_of schema =
    (codes "queryBinding", Some (codes "xslt"))
    ∷ (codes "schemaVersion", schema.head.schema_version)
    ∷ (codes "defaultPhase", schema.head.default_phase) ∷ []

abbrev schema_attrs : FlatSchema → List Attr
schema_attrs schema =
    record { name = codes "xmlns:sch"; value = codes "http://purl.oclc.org/dsdl/schematron" } ∷ only_given (plain_attributes_of schema)

declared-there : (version phase : Option (List ℕ)) →
    declarations (record { name = codes "xmlns:sch"; value = codes "http://purl.oclc.org/dsdl/schematron" }
    ∷ only_given ((codes "queryBinding", Some (codes "xslt")) ∷ (codes "schemaVersion", version) ∷ (codes "defaultPhase", phase) ∷ [])) ≡ sch_scope
unfolding xmlns_prefix
declared-there None None = refl
declared-there None (Some phase) = refl
declared-there (Some version) None = refl
declared-there (Some version) (Some phase) = refl

plain-there : (version phase : Option (List ℕ)) →
    plain_attrs (record { name = codes "xmlns:sch"; value = codes "http://purl.oclc.org/dsdl/schematron" }
    ∷ only_given ((codes "queryBinding", Some (codes "xslt")) ∷ (codes "schemaVersion", version) ∷ (codes "defaultPhase", phase) ∷ []))
    ≡ only_given ((codes "queryBinding", Some (codes "xslt")) ∷ (codes "schemaVersion", version) ∷ (codes "defaultPhase", phase) ∷ [])
unfolding xmlns_prefix
plain-there None None = refl
plain-there None (Some phase) = refl
plain-there (Some version) None = refl
plain-there (Some version) (Some phase) = refl

pub plain_names : (schema : FlatSchema) → are_plain (plain_attributes_of schema) ≡ true
unfolding xmlns_prefix
plain_names schema = refl

root-content : (content : Option Content) → kind_at content ≡ Some kind.Root → content ≡ Some root
root-content None h = absurd (cc)
root-content (Some root) h = refl
root-content (Some (element its decls)) h = absurd (cc)
root-content (Some (attribute its value)) h = absurd (cc)
root-content (Some (text characters)) h = absurd (cc)
root-content (Some (comment characters)) h = absurd (cc)
root-content (Some (instruction its body)) h = absurd (cc)

-- the document element as it is found
pub record Found (T : Table) (schema : FlatSchema) : Type 0 where
  pub node : ℕ
  pub is : document_element T ≡ node
  pub alone : kids_of T 0 ≡ node ∷ []
  pub place : Place T node
  pub word : word_at T node ≡ word_of (codes "schema")
  pub own : SayAll T (attrs_of T node) (only_given (plain_attributes_of schema))
  pub says : (name : List ℕ) → said_at T node name ≡ given_in (plain_attributes_of schema) name
  pub kids : flat_map (told T) (kids_of T node) ≡ said (held_events schema)

module _ (T : Table) (formed : WellFormed T) (ways : HasWaysUp T) (walks : Walks T) (scopes : HasScopes T) (in_scope : InScope T) where
  items-of : (n : ℕ) (ks : List ℕ) → ((k : ℕ) → mem k ks ≡ true → mem k (kids_of T n) ≡ true) → Items T ks
  items-of n [] within = tt
  items-of n (k ∷ ks) within =
      (kid_block T formed ways walks n k (within k (mem-head k ks)), items-of n ks (λ m h. within m (mem-tail m k ks h)))

  pub kid_items : (n : ℕ) → Items T (kids_of T n)
  kid_items n = items-of n (kids_of T n) (λ k h. h)

  are-kids : (n : ℕ) (ks : List ℕ) → ((k : ℕ) → mem k ks ≡ true → mem k (kids_of T n) ≡ true) → AreKids T n ks
  are-kids n [] within = tt
  are-kids n (k ∷ ks) within =
      let member = within k (mem-head k ks) in
      ((formed.kid_parent n k member, formed.kid_kind n k member, kid_items k), are-kids n ks (λ m h. within m (mem-tail m k ks h)))

  pub are_kids : (n : ℕ) → AreKids T n (kids_of T n)
  are_kids n = are-kids n (kids_of T n) (λ k h. h)

  pub root_is : content_of T 0 ≡ Some root
  root_is = root-content (content_of T 0) formed.root_kind

  pub no_attributes : (ns : List ℕ) → ((a : ℕ) → mem a ns ≡ true → mem a (attrs_of T 0) ≡ true) → ns ≡ []
  no_attributes [] within = refl
  no_attributes (a ∷ ns) within =
      let h : Some kind.Root ≡ Some kind.Element = sym formed.root_kind ∙ formed.owner_kind 0 a (within a (mem-head a ns)) in absurd (cc)

  root-told : told T 0 ≡ flat_map (told T) (kids_of T 0)
  root-told =
      told_at T formed ways walks 0
      ∙ ap (λ l. (map unscoped (opens T 0) ++ map unscoped (flat_map (opens T) l)) ++ (flat_map (told T) (kids_of T 0) ++ map unscoped (lines_at last_lines (content_of T 0)))) (no_attributes (attrs_of T 0) (λ a h. h))
      ∙ ap (λ (c : Option Content). (map unscoped (lines_at first_lines c) ++ []) ++ (flat_map (told T) (kids_of T 0) ++ map unscoped (lines_at last_lines c))) root_is
      ∙ append-nil (flat_map (told T) (kids_of T 0))

  found-element : (schema : FlatSchema) (d : ℕ) → kids_of T 0 ≡ d ∷ [] → told T d ≡ said (flat_events schema) → Found T schema
  found-element schema d kids same =
      let member : mem d (kids_of T 0) ≡ true = ap (mem d) kids ∙ mem-head d [] in
      let up = formed.kid_parent 0 d member in
      let e = is_flat_element T formed ways walks d (codes "sch:schema") (schema_attrs schema) (held_events schema) (held_holds schema) (kid_items d) (formed.kid_kind 0 d member) same in
      let decls : decls_of T d ≡ sch_scope = ap decls_at e.content ∙ e.declared ∙ declared-there schema.head.schema_version schema.head.default_phase in
      let above : scope_at T 0 ≡ [] = scopes.at_top 0 formed.root_parent ∙ ap decls_at root_is in
      let scope : scope_at T d ≡ sch_scope = scopes.under d 0 up ∙ ap (λ (l : List Decl). decls_of T d ++ l) above ∙ append-nil (decls_of T d) ∙ decls in
      let names = named_element T formed ways walks scopes in_scope d (codes "schema") (schema_attrs schema) (held_events schema) e scope in
      let word = word_named T formed ways walks scopes in_scope d (codes "schema") (schema_attrs schema) (held_events schema) e names in
      let own : SayAll T (attrs_of T d) (only_given (plain_attributes_of schema)) =
      say_all T (attrs_of T d) (formed.attribute_kind d) (only_given (plain_attributes_of schema))
      (e.attributes ∙ ap (map attribute_line) (plain-there schema.head.schema_version schema.head.default_phase)) in
      record {
        node = d;
        is = ap (λ (l : List ℕ). first_or 0 (find (λ k. is_element (kind_of T k)) l)) kids
            ∙ ap (λ (b : Bool). first_or 0 (cond b (Some d) None)) (ap (λ (c : Option Content). is_element (kind_at c)) e.content);
        alone = kids;
        place = record {
          scope = scope;
          counts = ap (list_any (is_foreign T)) (ways.ancestors_at d 0 up ∙ ap (λ l. 0 ∷ l) (ways.no_ancestors 0 formed.root_parent))
              ∙ ap (λ (c : Option Content). is_other_name (element_name c) || false) root_is;
          own = word.1;
        };
        word = word.0;
        own = own;
        says = λ name.
            said_is T in_scope (attrs_of T d) (only_given (plain_attributes_of schema)) own
            (all_plain (plain_attributes_of schema) (plain_names schema)).no_colons name
            ∙ given_is (plain_attributes_of schema) (plain_names schema) name;
        kids = e.kids;
      }

  pub found : (schema : FlatSchema) → Scoped (flat_events schema) T → Found T schema
  found schema scoped =
      let same : flat_map (told T) (kids_of T 0) ≡ said (flat_map flat_events (schema ∷ [])) ++ [] =
      sym root-told ∙ scoped.lines_are ∙ ap said (sym (append-nil (flat_events schema))) ∙ sym (append-nil (said (flat_events schema ++ []))) in
      by (take_pairs T flat_events schema_chunk (kids_of T 0) (kid_items 0) (schema ∷ []) [] same)
    where
      pick : (front : List ℕ) → Pairs T flat_events front (schema ∷ []) → kids_of T 0 ≡ front → Found T schema
      pick [] pairs kids = absurd pairs
      pick (d ∷ []) pairs kids = found-element schema d kids pairs.0
      pick (d ∷ e ∷ front) pairs kids = absurd pairs.1

      by : Taken T flat_events (schema ∷ []) (kids_of T 0) [] → Found T schema
      by taken = pick taken.front taken.pairs (taken.parts ∙ ap (λ l. taken.front ++ l) (none_left T taken.back taken.items taken.left) ∙ append-nil taken.front)
