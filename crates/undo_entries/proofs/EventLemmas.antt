-- The events of a node in parts, and by its kind.
use Rattle.std.proofs.Common.{◌≡◌, ℕ, ◌+◌, ◌<◌, ◌≤◌, true, false, eqb, List, [], ◌∷◌, ◌++◌, length, map, take, slice_index_or, Option, None, Some, refl, sym, ap, ◌∙◌, append-nil, append_assoc, eq-eqb, arith}
use Rattle.std.specs.List.{flat_map}
use Rattle.std.proofs.lemmas.List.{flat_map_more, map_more, take_more}
use Rattle.std.proofs.Math.Bool.{or-true}
use Rattle.std.proofs.Math.Seq.{take-length}
use Rattle.pyx_core.specs.declared.event.Attr.{Attr}
use Rattle.pyx_core.specs.declared.event.Event.{Event}
use Rattle.pyx_core.specs.declared.event.Event.TheVariants as event
use Rattle.doc_table.proofs.Forests.{formed-of}
use Rattle.doc_table.proofs.TreeLaws.{walked-at}
use Rattle.doc_table.specs.inner.Sound.{Formed}
use Rattle.doc_tree.specs.kind.Kind.TheVariants.{Root, Element, Attribute, Text, Comment, Pi}
use Rattle.doc_tree.specs.Kinds.{is_element}
use Rattle.doc_tree.specs.Laws.{WellFormed}
use Rattle.doc_tree.specs.Lists.{mem}
use Rattle.doc_tree.specs.QNames.{written_in}
use Rattle.doc_tree.specs.Scope.{Decl}
use Rattle.doc_tree.specs.Table.{Content, Table, root, element, attribute, text, comment, instruction, attrs_of, content_of, decls_at, decls_of, kids_of, kind_at, kind_of, name_at, name_of, value_at, value_of}
use Rattle.subtree_events.specs.Events.{attr_in, begin_events, end_events, events_below, tag_attrs}
use Rattle.undo_entries.specs.inner.Parts.{target_in}

module _ (T : Table) where
  -- an attribute has no events of its own
  pub silent : (a : ℕ) → kind_of T a ≡ Some Attribute → begin_events T a (content_of T a) ≡ []
  silent a is = by (content_of T a) is
    where
      by : (content : Option Content) → kind_at content ≡ Some Attribute → begin_events T a content ≡ []
      by None is = refl
      by (Some root) is = refl
      by (Some (element name decls)) is = absurd (cc)
      by (Some (attribute name value)) is = refl
      by (Some (text characters)) is = absurd (cc)
      by (Some (comment characters)) is = absurd (cc)
      by (Some (instruction name body)) is = absurd (cc)

  none-begin : (ns : List ℕ) → ((a : ℕ) → mem a ns ≡ true → kind_of T a ≡ Some Attribute) → flat_map (λ m. begin_events T m (content_of T m)) ns ≡ []
  none-begin [] attributes = refl
  none-begin (n ∷ ns) attributes =
      let same : eqb n n ≡ true = eq-eqb n n refl in
      let here : begin_events T n (content_of T n) ≡ [] = silent n (attributes n (rw same refl)) in
      rw here (none-begin ns (λ a m. attributes a (rw m (or-true (eqb a n)))))

  -- a node begins, its kids stand, and it ends
  pub parts : WellFormed T → (n : ℕ) → events_below T n ≡ begin_events T n (content_of T n) ++ (flat_map (events_below T) (kids_of T n) ++ end_events (content_of T n))
  parts form n =
      let f : Formed T = formed-of T form in
      walked-at (λ m. begin_events T m (content_of T m)) (λ m. end_events (content_of T m)) T f.forest f.whole n
      ∙ ap (λ l. (begin_events T n (content_of T n) ++ l) ++ (flat_map (events_below T) (kids_of T n) ++ end_events (content_of T n)))
      (none-begin (attrs_of T n) (form.attribute_kind n))
      ∙ ap (λ l. l ++ (flat_map (events_below T) (kids_of T n) ++ end_events (content_of T n))) (append-nil (begin_events T n (content_of T n)))

  pub root-begins : (n : ℕ) → kind_of T n ≡ Some Root → begin_events T n (content_of T n) ≡ []
  root-begins n is = by (content_of T n) is
    where
      by : (content : Option Content) → kind_at content ≡ Some Root → begin_events T n content ≡ []
      by None is = refl
      by (Some root) is = refl
      by (Some (element name decls)) is = absurd (cc)
      by (Some (attribute name value)) is = absurd (cc)
      by (Some (text characters)) is = absurd (cc)
      by (Some (comment characters)) is = absurd (cc)
      by (Some (instruction name body)) is = absurd (cc)

  pub element-begins : (n : ℕ) → kind_of T n ≡ Some Element →
      begin_events T n (content_of T n) ≡ event.Start (written_in (name_of T n)) (tag_attrs T n (decls_of T n)) ∷ []
  element-begins n is = by (content_of T n) is
    where
      by : (content : Option Content) → kind_at content ≡ Some Element →
          begin_events T n content ≡ event.Start (written_in (name_at content)) (tag_attrs T n (decls_at content)) ∷ []
      by None is = absurd (cc)
      by (Some root) is = absurd (cc)
      by (Some (element name decls)) is = refl
      by (Some (attribute name value)) is = absurd (cc)
      by (Some (text characters)) is = absurd (cc)
      by (Some (comment characters)) is = absurd (cc)
      by (Some (instruction name body)) is = absurd (cc)

  pub text-begins : (n : ℕ) → kind_of T n ≡ Some Text → begin_events T n (content_of T n) ≡ event.Chars (value_of T n) ∷ []
  text-begins n is = by (content_of T n) is
    where
      by : (content : Option Content) → kind_at content ≡ Some Text → begin_events T n content ≡ event.Chars (value_at content) ∷ []
      by None is = absurd (cc)
      by (Some root) is = absurd (cc)
      by (Some (element name decls)) is = absurd (cc)
      by (Some (attribute name value)) is = absurd (cc)
      by (Some (text characters)) is = refl
      by (Some (comment characters)) is = absurd (cc)
      by (Some (instruction name body)) is = absurd (cc)

  pub comment-begins : (n : ℕ) → kind_of T n ≡ Some Comment → begin_events T n (content_of T n) ≡ event.Comment (value_of T n) ∷ []
  comment-begins n is = by (content_of T n) is
    where
      by : (content : Option Content) → kind_at content ≡ Some Comment → begin_events T n content ≡ event.Comment (value_at content) ∷ []
      by None is = absurd (cc)
      by (Some root) is = absurd (cc)
      by (Some (element name decls)) is = absurd (cc)
      by (Some (attribute name value)) is = absurd (cc)
      by (Some (text characters)) is = absurd (cc)
      by (Some (comment characters)) is = refl
      by (Some (instruction name body)) is = absurd (cc)

  pub instruction-begins : (n : ℕ) → kind_of T n ≡ Some Pi → begin_events T n (content_of T n) ≡ event.Pi (target_in (name_of T n)) (value_of T n) ∷ []
  instruction-begins n is = by (content_of T n) is
    where
      by : (content : Option Content) → kind_at content ≡ Some Pi → begin_events T n content ≡ event.Pi (target_in (name_at content)) (value_at content) ∷ []
      by None is = absurd (cc)
      by (Some root) is = absurd (cc)
      by (Some (element name decls)) is = absurd (cc)
      by (Some (attribute name value)) is = absurd (cc)
      by (Some (text characters)) is = absurd (cc)
      by (Some (comment characters)) is = absurd (cc)
      by (Some (instruction name body)) is = refl

  pub element-ends : (n : ℕ) → is_element (kind_of T n) ≡ true → end_events (content_of T n) ≡ event.End (written_in (name_of T n)) ∷ []
  element-ends n is = by (content_of T n) is
    where
      by : (content : Option Content) → is_element (kind_at content) ≡ true → end_events content ≡ event.End (written_in (name_at content)) ∷ []
      by None is = absurd (cc)
      by (Some root) is = absurd (cc)
      by (Some (element name decls)) is = refl
      by (Some (attribute name value)) is = absurd (cc)
      by (Some (text characters)) is = absurd (cc)
      by (Some (comment characters)) is = absurd (cc)
      by (Some (instruction name body)) is = absurd (cc)

  pub others-end : (n : ℕ) → is_element (kind_of T n) ≡ false → end_events (content_of T n) ≡ []
  others-end n is = by (content_of T n) is
    where
      by : (content : Option Content) → is_element (kind_at content) ≡ false → end_events content ≡ []
      by None is = refl
      by (Some root) is = refl
      by (Some (element name decls)) is = absurd (cc)
      by (Some (attribute name value)) is = refl
      by (Some (text characters)) is = refl
      by (Some (comment characters)) is = refl
      by (Some (instruction name body)) is = refl

  pub attribute-is : (a : ℕ) → kind_of T a ≡ Some Attribute → attr_in (content_of T a) ≡ record { name = written_in (name_of T a); value = value_of T a } ∷ []
  attribute-is a is = by (content_of T a) is
    where
      by : (content : Option Content) → kind_at content ≡ Some Attribute → attr_in content ≡ record { name = written_in (name_at content); value = value_at content } ∷ []
      by None is = absurd (cc)
      by (Some root) is = absurd (cc)
      by (Some (element name decls)) is = absurd (cc)
      by (Some (attribute name value)) is = refl
      by (Some (text characters)) is = absurd (cc)
      by (Some (comment characters)) is = absurd (cc)
      by (Some (instruction name body)) is = absurd (cc)

-- one more of a list was told
pub told-more : {A : Type 0} (f : ℕ → List A) (old now new : List A) (ns : List ℕ) (i n : ℕ) → i < length ns → n ≡ slice_index_or ns i n →
    now ≡ old ++ flat_map f (take i ns) → new ≡ now ++ f n → new ≡ old ++ flat_map f (take (i + 1) ns)
told-more f old now new ns i n less is before more =
    more
    ∙ ap (λ l. l ++ f n) before
    ∙ flat_map_more f old (take i ns) n
    ∙ ap (λ l. old ++ flat_map f l) (sym (take_more ns i n less ∙ ap (λ k. take i ns ++ k ∷ []) (sym is)))

-- all of it was
pub told-all : {A : Type 0} (f : ℕ → List A) (old now : List A) (ns : List ℕ) (i : ℕ) → length ns ≤ i → i ≤ length ns → now ≡ old ++ flat_map f (take i ns) →
    now ≡ old ++ flat_map f ns
told-all f old now ns i least most told =
    let at : i ≡ length ns = omega arith in
    told ∙ ap (λ k. old ++ flat_map f (take k ns)) at ∙ ap (λ l. old ++ flat_map f l) (take-length ns)

-- the node after its kids
pub told-node : (T : Table) → WellFormed T → (n i : ℕ) (old first kids last : List Event) → length (kids_of T n) ≤ i → i ≤ length (kids_of T n) →
    first ≡ old ++ begin_events T n (content_of T n) → kids ≡ first ++ flat_map (events_below T) (take i (kids_of T n)) →
    last ≡ kids ++ end_events (content_of T n) → last ≡ old ++ events_below T n
told-node T form n i old first kids last least most began told ended =
    ended
    ∙ ap (λ l. l ++ end_events (content_of T n))
    (told-all (events_below T) first kids (kids_of T n) i least most told ∙ ap (λ l. l ++ flat_map (events_below T) (kids_of T n)) began)
    ∙ append_assoc (old ++ begin_events T n (content_of T n)) (flat_map (events_below T) (kids_of T n)) (end_events (content_of T n))
    ∙ append_assoc old (begin_events T n (content_of T n)) (flat_map (events_below T) (kids_of T n) ++ end_events (content_of T n))
    ∙ ap (λ l. old ++ l) (sym (parts T form n))

-- one declaration more
pub declared-more : (f : Decl → Attr) (old now new : List Attr) (decls : List Decl) (i : ℕ) → i < length decls → now ≡ old ++ map f (take i decls) →
    new ≡ now ++ f (slice_index_or decls i ([], [])) ∷ [] → new ≡ old ++ map f (take (i + 1) decls)
declared-more f old now new decls i less before more =
    more
    ∙ ap (λ l. l ++ f (slice_index_or decls i ([], [])) ∷ []) before
    ∙ append_assoc old (map f (take i decls)) (f (slice_index_or decls i ([], [])) ∷ [])
    ∙ ap (λ l. old ++ l) (sym (map_more f decls i ([], []) less))

pub declared-all : (f : Decl → Attr) (old now : List Attr) (decls : List Decl) (i : ℕ) → length decls ≤ i → i ≤ length decls → now ≡ old ++ map f (take i decls) → now ≡ old ++ map f decls
declared-all f old now decls i least most told =
    let at : i ≡ length decls = omega arith in
    told ∙ ap (λ k. old ++ map f (take k decls)) at ∙ ap (λ l. old ++ map f l) (take-length decls)
