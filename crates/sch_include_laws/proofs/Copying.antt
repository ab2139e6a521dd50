-- A node of a tree has a copy wherever one may come.
use Rattle.std.proofs.Common.{◌≡◌, ℕ, zero, suc, ◌+◌, ◌<◌, ◌≤◌, false, List, [], ◌∷◌, ◌++◌, length, take, sum_by, slice_index_or, Option, None, Some, Ok, refl, sym, ap, ◌∙◌, subst, true≢false, arith, append_assoc, append-nil, nat_lt}
use Rattle.std.proofs.lemmas.Bool.{le-ltb, lt-leb}
use Rattle.std.proofs.lemmas.List.{take_all}
use Rattle.doc_table.specs.inner.Sound.{Formed}
use Rattle.doc_table.proofs.Appending.{Appended, appended}
use Rattle.doc_table.proofs.DeclareLemmas.{declared, formed-declared}
use Rattle.doc_table.proofs.TreeLaws.{ways-up}
use Rattle.doc_tree.specs.limits.TheConstants.{MAX_DEPTH, MAX_LIVE_NODES, MAX_LIVE_TEXT_BYTES}
use Rattle.doc_tree.specs.kind.Kind.TheVariants as kind
use Rattle.doc_tree.specs.Declaring.{with_decl}
use Rattle.doc_tree.specs.Growth.{FitsUnder, is_too_deep, with_node}
use Rattle.doc_tree.specs.Kinds.{can_be_kid, is_element, is_kind, is_text}
use Rattle.doc_tree.specs.Laws.{WellFormed}
use Rattle.doc_tree.specs.Scope.{Decl}
use Rattle.doc_tree.specs.Table.{Content, Name, Table, attribute, attrs_of, comment, content_of, decls_at, decls_of, element, instruction, kind_at, kind_of, name_at, name_of, root, text, value_at, value_in, value_of}
use Rattle.doc_tree.specs.Walks.{above, order, text_bytes}
use Rattle.name_scopes_laws.proofs.TreeSteps.{within}
use Rattle.sch_include.specs.inner.Growing.{Copied, TakesCopy}
use Rattle.sch_include.proofs.CopyLemmas.{Attributing, Declaring, attributing-more, attributing-none, begun, begun-kind, begun-little, begun-receives, begun-room, comment-copied, declaring-more, declaring-none, element-copied, instruction-copied, leaf-own, next-bytes, next-fits, next-kind, next-room, text-copied}

-- a tree with a copy of the node
abbrev pub Copy : Table → ℕ → Table → ℕ → Type 0
Copy G p T n = (U : Table) × (k : ℕ) × Formed U × Copied G U p k T n

-- declarations, one after the other
decls-copied : (U V : Table) (k : ℕ) (done rest : List Decl) → Formed V → Declaring U V k done → (W : Table) × Formed W × Declaring U W k (done ++ rest)
decls-copied U V k done [] formed was = (V, formed, subst (Declaring U V k) (sym (append-nil done)) was)
decls-copied U V k done (d ∷ rest) formed was =
    let next : Declaring U (with_decl V k d) k (done ++ d ∷ []) = declaring-more U V (with_decl V k d) k done d (declared V k d formed was.under) was in
    let all = decls-copied U (with_decl V k d) k (done ++ d ∷ []) rest (formed-declared V k d formed) next in
    (all.0, all.1, subst (Declaring U all.0 k) (append_assoc done (d ∷ []) rest) all.2)

pub item-at : (xs : List ℕ) (i : ℕ) → i < length xs → (x : ℕ) × (x ≡ slice_index_or xs i x)
item-at [] i below = absurd (omega arith)
item-at (x ∷ xs) zero below = (x, refl)
item-at (x ∷ xs) (suc i) below = item-at xs i (omega arith)

attribute-named : (c : Option Content) → kind_at c ≡ Some kind.Attribute → (name : Name) × (name_at c ≡ Some name)
attribute-named None is = absurd (cc)
attribute-named (Some root) is = absurd (cc)
attribute-named (Some (element name decls)) is = absurd (cc)
attribute-named (Some (attribute name value)) is = (name, refl)
attribute-named (Some (text value)) is = absurd (cc)
attribute-named (Some (comment value)) is = absurd (cc)
attribute-named (Some (instruction name value)) is = absurd (cc)

-- attributes, one after the other
module _ (U : Table) (k : ℕ) (T : Table) (n : ℕ) (form : WellFormed T) (room : length (order U) + length (attrs_of T n) ≤ MAX_LIVE_NODES)
    (little : text_bytes U + sum_by (λ m. length (value_of T m)) (attrs_of T n) ≤ MAX_LIVE_TEXT_BYTES) where
  attribute-copied : (i : ℕ) → i < length (attrs_of T n) → (V : Table) → Formed V → Attributing U V k T (take i (attrs_of T n)) →
      (W : Table) × Formed W × Attributing U W k T (take (i + 1) (attrs_of T n))
  attribute-copied i less V formed was =
      let at = item-at (attrs_of T n) i less in
      let a : ℕ = at.0 in
      let named = attribute-named (content_of T a) (next-kind U V k T n form i a at.1 less was) in
      let few : length (order V) < MAX_LIVE_NODES = omega (arith, room, was.counted, next-room U V k T n form i a at.1 less was) in
      let short : text_bytes V + length (value_of T a) ≤ MAX_LIVE_TEXT_BYTES = omega (arith, little, was.bytes, next-bytes U V k T n form i a at.1 less was) in
      let grown : Appended V k (attribute named.0 (value_of T a)) =
      appended V k (attribute named.0 (value_of T a)) formed was.receives.holder (next-fits U V k T n form i a at.1 less was named.0 named.1) was.receives.last was.receives.all_live
      (within V k (attribute named.0 (value_of T a)) (lt-leb MAX_LIVE_NODES (length (order V)) few) refl short) in (
        with_node V k (attribute named.0 (value_of T a)),
        grown.formed,
        attributing-more U V k T n form i a at.1 less was (with_node V k (attribute named.0 (value_of T a))) (length V) named.0 (ways-up V formed) named.1 grown.grew,
      )

  attributes-copied : (j i : ℕ) → i + j ≡ length (attrs_of T n) → (V : Table) → Formed V → Attributing U V k T (take i (attrs_of T n)) →
      (W : Table) × Formed W × Attributing U W k T (attrs_of T n)
  attributes-copied zero i end V formed was = (V, formed, subst (Attributing U V k T) (take_all i (attrs_of T n) (omega (arith, end))) was)
  attributes-copied (suc j) i end V formed was =
      let next = attribute-copied i (omega (arith, end)) V formed was in
      attributes-copied j (i + 1) (omega (arith, end)) next.0 next.1 next.2

module _ (G : Table) (p : ℕ) (T : Table) (n : ℕ) (formed : Formed G) (form : WellFormed T) (takes : TakesCopy G p T n) where
  few : length (order G) < MAX_LIVE_NODES
  few = omega (arith, takes.room)

  grown : (c : Content) → FitsUnder G p c → is_too_deep G p c ≡ false → text_bytes G + length (value_in c) ≤ MAX_LIVE_TEXT_BYTES → Appended G p c
  grown c fits shallow short =
      appended G p c formed takes.receives.holder fits takes.receives.last takes.receives.all_live (within G p c (lt-leb MAX_LIVE_NODES (length (order G)) few) shallow short)

  element-copy : (name : Name) (ds : List Decl) → content_of T n ≡ Some (element name ds) → Copy G p T n
  element-copy name ds content =
      let is : kind_of T n ≡ Some kind.Element = ap kind_at content in
      let named : name_of T n ≡ Some name = ap name_at content in
      let shallow : nat_lt MAX_DEPTH (length (above G p)) ≡ false = le-ltb MAX_DEPTH (length (above G p)) (takes.shallow (ap is_element is)) in
      let first : Appended G p (element name []) = grown (element name []) tt shallow (omega (arith, takes.little)) in
      let U : Table = with_node G p (element name []) in
      let k : ℕ = length G in
      let own = decls-copied U U k [] (decls_of T n) first.formed
      (declaring-none U k (ap kind_at first.grew.content) (ap decls_at first.grew.content) first.grew.no_attributes) in
      let V : Table = own.0 in
      let started = begun G U V p k T n name takes is named first.grew own.2.starts in
      let all = attributes-copied V k T n form (begun-room G U V p k T n name takes is named first.grew own.2.starts) (begun-little G U V p k T n name takes is named first.grew own.2.starts)
      (length (attrs_of T n)) 0 (omega arith) V own.1
      (attributing-none V k T (begun-receives G U V p k T n name takes is named first.grew own.2.starts) (begun-kind G U V p k T n name takes is named first.grew own.2.starts) started.no_kid own.2.no_attribute) in
      (all.0, k, all.1, element-copied G U V p k T n name takes is named first.grew own.2.starts all.0 (all.2.starts G p _ _ 1 0 started))

  text-copy : (value : List ℕ) → content_of T n ≡ Some (text value) → Copy G p T n
  text-copy value content =
      let is : kind_of T n ≡ Some kind.Text = ap kind_at content in
      let said : value_of T n ≡ value = ap value_at content in
      let short : text_bytes G + length value ≤ MAX_LIVE_TEXT_BYTES = omega (arith, takes.little, leaf-own T n (text value) form content refl) in
      let one : Appended G p (text value) =
      grown (text value) (record { some = λ none. form.some_text n is (said ∙ none); apart = takes.apart (ap is_text is) }) refl short in (
        with_node G p (text value),
        length G,
        one.formed,
        text-copied G (with_node G p (text value)) p T n form takes (Ok (length G)) (Ok (length G)) (Ok (length G)) refl refl value (sym said) (ap is_text is) one.grew,
      )

  comment-copy : (value : List ℕ) → content_of T n ≡ Some (comment value) → Copy G p T n
  comment-copy value content =
      let short : text_bytes G + length value ≤ MAX_LIVE_TEXT_BYTES = omega (arith, takes.little, leaf-own T n (comment value) form content refl) in
      let one : Appended G p (comment value) = grown (comment value) tt refl short in (
        with_node G p (comment value),
        length G,
        one.formed,
        comment-copied G (with_node G p (comment value)) p T n form takes (Ok (length G)) (Ok (length G)) (Ok (length G)) refl refl value (sym (ap value_at content)) (ap (λ c. is_kind kind.Comment (kind_at c)) content) one.grew,
      )

  instruction-copy : (name : Name) (value : List ℕ) → content_of T n ≡ Some (instruction name value) → Copy G p T n
  instruction-copy name value content =
      let short : text_bytes G + length value ≤ MAX_LIVE_TEXT_BYTES = omega (arith, takes.little, leaf-own T n (instruction name value) form content refl) in
      let one : Appended G p (instruction name value) = grown (instruction name value) tt refl short in (
        with_node G p (instruction name value),
        length G,
        one.formed,
        instruction-copied G (with_node G p (instruction name value)) p T n form takes (Ok (length G)) (Ok (length G)) (Ok (length G)) refl refl name value (sym (ap value_at content))
            (ap (λ c. is_element (kind_at c)) content) (ap (λ c. is_text (kind_at c)) content) (ap (λ c. is_kind kind.Comment (kind_at c)) content) (ap name_at content) one.grew,
      )

  pub node-copy : Copy G p T n
  node-copy = by (content_of T n) refl
    where
      no-kid : (c : Option Content) → content_of T n ≡ c → can_be_kid (kind_at c) ≡ false → Copy G p T n
      no-kid c is isnt = absurd (true≢false (sym takes.kid ∙ (ap (λ o. can_be_kid (kind_at o)) is ∙ isnt)))

      by : (c : Option Content) → content_of T n ≡ c → Copy G p T n
      by None is = no-kid None is refl
      by (Some root) is = no-kid (Some root) is refl
      by (Some (element name ds)) is = element-copy name ds is
      by (Some (attribute name value)) is = no-kid (Some (attribute name value)) is refl
      by (Some (text value)) is = text-copy value is
      by (Some (comment value)) is = comment-copy value is
      by (Some (instruction name value)) is = instruction-copy name value is
