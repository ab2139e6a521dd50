-- An attribute against which nothing speaks may come, or get its value.
use Rattle.std.proofs.Common.{◌≡◌, ℕ, suc, ◌+◌, ◌≤◌, Bool, true, false, cond, not, ◌&&◌, List, [], ◌∷◌, ◌++◌, length, Option, None, Some, refl, sym, ap, ap₂, ◌∙◌, subst, true≢false, arith, eqb, eqb-true, eq-eqb, ltb-false, is_none, is_some, unwrap_or}
use Rattle.std.specs.Prelude.{nat_lt}
use Rattle.std.specs.Str.{bytes_eq}
use Rattle.std.proofs.lemmas.Slice.Eq.{bytes_eq-Decides}
use Rattle.sch_base.specs.Lists.{is_nil}
use Rattle.doc_table.specs.declared.kind.Kind.TheVariants.{Element, Attribute, Text}
use Rattle.doc_table.specs.declared.limits.TheConstants.{MAX_LIVE_NODES, MAX_LIVE_TEXT_BYTES, MAX_NODE_NUMBERS}
use Rattle.doc_table.specs.Kinds.{can_be_kid, holds_kids, is_document, is_element, is_kind}
use Rattle.doc_table.specs.Laws.{HasWaysUp, WellFormed}
use Rattle.doc_table.specs.Lists.{mem}
use Rattle.doc_table.specs.Table.{Contents, Name, Table, attrs_of, expanded, expanded_in, expanded_of, kids_above, kids_of, kind_of, name_of, parent_of, value_of}
use Rattle.doc_table.specs.Walks.{order, text_bytes}
use Rattle.doc_table.proofs.ListLemmas.{mem-head, mem-tail}
use Rattle.doc_edits.specs.Fitting.{MayGain, MayGo, MaySay}
use Rattle.doc_edits.specs.Changes.{deleted, deleted_by, meeting, removed}
use Rattle.doc_edits.specs.Documents.{EditsKeepDocuments}
use Rattle.doc_tree.specs.declared.refusal.EditRefusal.TheVariants.{WrongKind, NoPrefix, XmlnsName, TooManyNodes, TooMuchText, IdsSpent, TooManyPairs}
use Rattle.doc_tree.specs.Edited.{attribute_name_at, attribute_set, with_value}
use Rattle.doc_tree.specs.NameTests.{attribute_in, attribute_meant, has_name, named}
use Rattle.doc_tree.specs.Refusals.{declares_namespace, name_refusal, setting_refusal, value_refusal}
use Rattle.doc_tree.specs.Scope.{attribute_namespace, namespace_or_none, scope_at, xmlns_prefix}
use Rattle.doc_tree.proofs.RefusalLemmas.{and-false, find-in, find-none, is-element, none-of-four, none-of-three, not-true, or-false, or-none}

-- a node with an expanded name passes the test of that name
pub has-expanded : (T : Table) (a : ℕ) (name : Name) → expanded_of T a ≡ Some (expanded name) → has_name T a name.uri name.local ≡ true
has-expanded T a name h = by (name_of T a) h
  where
    equal : (xs ys : List ℕ) → xs ≡ ys → bytes_eq xs ys ≡ true
    equal xs ys e = (bytes_eq-Decides xs ys).1 e

    by : (found : Option Name) → expanded_in found ≡ Some (expanded name) → named found (λ m. bytes_eq m.uri name.uri && bytes_eq m.local name.local) ≡ true
    by None e = absurd (true≢false (sym (ap is_some e)))
    by (Some m) e =
        ap₂ (λ x y. x && y) (equal m.uri name.uri (ap (λ o. (unwrap_or o (expanded m)).0) e)) (equal m.local name.local (ap (λ o. (unwrap_or o (expanded m)).1) e))

-- a name against which nothing speaks
module _ (T : Table) (n : ℕ) (prefix local : List ℕ) (free : name_refusal T n prefix local ≡ None) where
  parts : (not (is_element (kind_of T n)) ≡ false) × ((not (bytes_eq prefix xmlns_prefix) && is_none (attribute_namespace (scope_at T n) prefix)) ≡ false)
      × (declares_namespace prefix local ≡ false)
  parts =
      none-of-three (not (is_element (kind_of T n))) (not (bytes_eq prefix xmlns_prefix) && is_none (attribute_namespace (scope_at T n) prefix))
      (declares_namespace prefix local) WrongKind NoPrefix XmlnsName free

  -- it is given to an element
  pub owner : kind_of T n ≡ Some Element
  owner = is-element (kind_of T n) (not-true (is_element (kind_of T n)) parts.0)

  pub no-words : (bytes_eq prefix xmlns_prefix ≡ false) × ((is_nil prefix && bytes_eq local xmlns_prefix) ≡ false)
  no-words = or-false (bytes_eq prefix xmlns_prefix) (is_nil prefix && bytes_eq local xmlns_prefix) parts.2

  -- its prefix is in scope
  pub known : attribute_namespace (scope_at T n) prefix ≡ Some (namespace_or_none T n prefix)
  known =
      there (attribute_namespace (scope_at T n) prefix)
      (and-false (not (bytes_eq prefix xmlns_prefix)) (is_none (attribute_namespace (scope_at T n) prefix)) parts.1 (ap not no-words.0))
    where
      there : (o : Option (List ℕ)) → is_none o ≡ false → o ≡ Some (unwrap_or o [])
      there None h = absurd (true≢false h)
      there (Some uri) h = refl

-- an attribute that was found is one of the element's
pub found-member : (T : Table) (n a : ℕ) (prefix local : List ℕ) → attribute_meant T n prefix local ≡ Some a → mem a (attrs_of T n) ≡ true
found-member T n a prefix local h = by (attribute_namespace (scope_at T n) prefix) h
  where
    by : (uri : Option (List ℕ)) → attribute_in T n uri local ≡ Some a → mem a (attrs_of T n) ≡ true
    by None e = absurd (true≢false (sym (ap is_some e)))
    by (Some uri) e = (find-in (λ b. has_name T b uri local) (attrs_of T n) a e).0

module _ (tree : Contents) (n : ℕ) (prefix local value : List ℕ) (free : setting_refusal tree n prefix local value ≡ None) where
  abbrev found : Option ℕ
  found = attribute_meant tree.nodes n prefix local

  both : (name_refusal tree.nodes n prefix local ≡ None) × (value_refusal tree found value ≡ None)
  both = or-none (name_refusal tree.nodes n prefix local) (value_refusal tree found value) free

  pub may-gain : found ≡ None → MayGain tree.nodes n (attribute_name_at tree.nodes n prefix local) value
  may-gain absent = record {
    under = owner tree.nodes n prefix local both.0;
    is_new = λ a member same. true≢false
        (sym (has-expanded tree.nodes a (attribute_name_at tree.nodes n prefix local) same)
        ∙ find-none (λ b. has_name tree.nodes b (namespace_or_none tree.nodes n prefix) local) (attrs_of tree.nodes n)
        (ap (λ uri. attribute_in tree.nodes n uri local) (sym (known tree.nodes n prefix local both.0)) ∙ absent) a member);
    few_nodes = omega (arith, ltb-false MAX_LIVE_NODES (suc (length (order tree.nodes))) room.0);
    few_numbers = omega (arith, ltb-false MAX_NODE_NUMBERS (suc (length tree.nodes)) room.2);
    little = ltb-false MAX_LIVE_TEXT_BYTES (text_bytes tree.nodes + length value) room.1;
  }
    where
      room : (nat_lt MAX_LIVE_NODES (suc (length (order tree.nodes))) ≡ false) × (nat_lt MAX_LIVE_TEXT_BYTES (text_bytes tree.nodes + length value) ≡ false)
          × (nat_lt MAX_NODE_NUMBERS (suc (length tree.nodes)) ≡ false) × (nat_lt tree.pair_cap (suc (length (order tree.nodes))) ≡ false)
      room =
          none-of-four (nat_lt MAX_LIVE_NODES (suc (length (order tree.nodes)))) (nat_lt MAX_LIVE_TEXT_BYTES (text_bytes tree.nodes + length value))
          (nat_lt MAX_NODE_NUMBERS (suc (length tree.nodes))) (nat_lt tree.pair_cap (suc (length (order tree.nodes)))) TooManyNodes TooMuchText IdsSpent TooManyPairs
          (subst (λ o. value_refusal tree o value ≡ None) absent both.1)

  pub may-say : WellFormed tree.nodes → HasWaysUp tree.nodes → (a : ℕ) → found ≡ Some a → MaySay tree.nodes a value
  may-say formed ways a is =
      let member : mem a (attrs_of tree.nodes n) ≡ true = found-member tree.nodes n a prefix local is in
      let kind : kind_of tree.nodes a ≡ Some Attribute = formed.attribute_kind n a member in
      record {
        lives = ways.attribute_live n a member;
        has_text = ap holds_kids kind;
        some = λ text. absurd (attribute-text (sym kind ∙ text));
        little = small (nat_lt (MAX_LIVE_TEXT_BYTES + length (value_of tree.nodes a)) (text_bytes tree.nodes + length value)) refl (subst (λ o. value_refusal tree o value ≡ None) is both.1);
      }
    where
      attribute-text : Some Attribute ≡ Some Text → ⊥
      attribute-text h = true≢false (ap (is_kind Attribute) h)

      small : (b : Bool) → nat_lt (MAX_LIVE_TEXT_BYTES + length (value_of tree.nodes a)) (text_bytes tree.nodes + length value) ≡ b → cond b (Some TooMuchText) None ≡ None
          → text_bytes tree.nodes + length value ≤ MAX_LIVE_TEXT_BYTES + length (value_of tree.nodes a)
      small true e h = absurd (true≢false (ap is_some h))
      small false e h = ltb-false (MAX_LIVE_TEXT_BYTES + length (value_of tree.nodes a)) (text_bytes tree.nodes + length value) e

-- no texts meet where a node goes that is no kid
meeting-absent : (T : Table) (n : ℕ) (ks : List ℕ) → mem n ks ≡ false → meeting T n ks ≡ None
meeting-absent T n [] h = refl
meeting-absent T n (k ∷ []) h = refl
meeting-absent T n (k ∷ l ∷ []) h = refl
meeting-absent T n (k ∷ l ∷ m ∷ ks) h =
    let rest : mem n (l ∷ m ∷ ks) ≡ false = (or-false (eqb n k) (mem n (l ∷ m ∷ ks)) h).1 in
    rw (not-equal l n (or-false (eqb n l) (mem n (m ∷ ks)) rest).0) (meeting-absent T n (l ∷ m ∷ ks) rest)
  where
    not-equal : (l n : ℕ) → eqb n l ≡ false → eqb l n ≡ false
    not-equal l n h = by (eqb l n) refl
      where
        by : (b : Bool) → eqb l n ≡ b → b ≡ false
        by true e = absurd (true≢false (sym (eq-eqb n l (sym (eqb-true l n e))) ∙ h))
        by false e = refl

-- an attribute that goes is no kid
module _ (T : Table) (wf : WellFormed T) (ways : HasWaysUp T) (n a : ℕ) (member : mem a (attrs_of T n) ≡ true) where
  kind : kind_of T a ≡ Some Attribute
  kind = wf.attribute_kind n a member

  no-kid : (p : ℕ) → mem a (kids_of T p) ≡ false
  no-kid p = by (mem a (kids_of T p)) refl
    where
      by : (b : Bool) → mem a (kids_of T p) ≡ b → b ≡ false
      by true e = absurd (true≢false (sym (wf.kid_kind p a e) ∙ ap can_be_kid kind))
      by false e = refl

  pub may-go : MayGo T a
  may-go = record {
    lives = ways.attribute_live n a member;
    below_root = λ root. true≢false (sym (ap (is_kind Attribute) (sym (ap (kind_of T) root) ∙ kind)) ∙ ap (is_kind Attribute) wf.root_kind);
    apart = λ before behind p is. absurd (true≢false (sym (middle before behind) ∙ (sym (ap (mem a) is) ∙ no-kid p)));
  }
    where
      middle : (before behind : List ℕ) → mem a (before ++ a ∷ behind) ≡ true
      middle [] behind = mem-head a behind
      middle (b ∷ before) behind = mem-tail a b (before ++ a ∷ behind) (middle before behind)

  gone : deleted T a ≡ removed T a
  gone = by (parent_of T a)
    where
      by : (p : Option ℕ) → deleted_by T a (meeting T a (kids_above T p)) ≡ removed T a
      by None = refl
      by (Some p) = ap (deleted_by T a) (meeting-absent T a (kids_of T p) (no-kid p))

  pub document-stays : EditsKeepDocuments → is_document T ≡ true → is_document (removed T a) ≡ true
  document-stays keeps document = ap is_document (sym gone) ∙ keeps.deletion T a wf document (λ _. ap is_element kind)

-- a document in which an attribute is set is one
pub set-document : EditsKeepDocuments → (T : Table) (n : ℕ) (prefix local value : List ℕ) → WellFormed T → is_document T ≡ true → is_document (attribute_set T n prefix local value) ≡ true
set-document keep T n prefix local value formed document = by (attribute_meant T n prefix local)
  where
    by : (found : Option ℕ) → is_document (with_value T n (attribute_name_at T n prefix local) found value) ≡ true
    by None = keep.gain T n (attribute_name_at T n prefix local) value formed document
    by (Some a) = keep.saying T a value document
