-- Each number of a grown table fits.
use Rattle.std.proofs.Common.{◌≡◌, ◌≢◌, ℕ, ◌≤◌, Bool, true, false, ◌&&◌, List, [], ◌∷◌, ◌++◌, ◌⊎◌, length, None, Some, refl, sym, ap, ◌∙◌, ⊎_elim, true≢false, arith, append-nil}
use Rattle.std.proofs.lemmas.List.{get_or_past}
use Rattle.std.proofs.Common.{ltb-false}
use Rattle.doc_table.specs.declared.kind.Kind.TheVariants.{Root, Element, Attribute, Text}
use Rattle.doc_table.specs.declared.limits.TheConstants.{MAX_DEPTH}
use Rattle.doc_table.specs.Lists.{mem}
use Rattle.doc_table.specs.Table.{Table, Name, Content, root, element, attribute, text, comment, instruction, entry_at, kids_at, attrs_at, content_at, kind_at, name_at, value_at, expanded_in, expanded, kids_of, attrs_of, kind_of, value_of, expanded_of, is_live, kind_in}
use Rattle.doc_table.specs.Walks.{ancestors, above}
use Rattle.doc_table.specs.Growth.{with_node, leaf, as_kid, as_attribute, FitsUnder, AttributeFits, ends_in_text, is_too_deep}
use Rattle.doc_table.specs.Kinds.{holds_kids, is_text, can_be_kid}
use Rattle.doc_table.specs.Laws.{TextsApart}
use Rattle.doc_table.specs.inner.Sound.{Fits}
use Rattle.doc_table.proofs.ListLemmas.{mem-append, mem-one, mem-head, mem-tail}
use Rattle.doc_table.proofs.Paths.{SameLinks}
use Rattle.doc_table.proofs.Growing.{entry-new, content-kept, kids-parent, attributes-parent, links-kept, old-number}

and-false : (a b : Bool) → (b ≡ true → a ≡ false) → (a && b) ≡ false
and-false true true h = h refl
and-false true false h = refl
and-false false b h = refl

module _ (T U : Table) where
  -- texts stay apart where the kinds stay
  pub texts-kept : (xs : List ℕ) → ((k : ℕ) → mem k xs ≡ true → kind_of U k ≡ kind_of T k) → TextsApart T xs → TextsApart U xs
  texts-kept [] same apart = tt
  texts-kept (x ∷ []) same apart = tt
  texts-kept (x ∷ y ∷ xs) same apart = (
    rw (same x (mem-head x (y ∷ xs)), same y (mem-tail y x (y ∷ xs) (mem-head y xs))) apart.0,
    texts-kept (y ∷ xs) (λ k h. same k (mem-tail k x (y ∷ xs) h)) apart.1,
  )

  -- and where one more follows no text or is none
  pub texts-more : (xs : List ℕ) (n : ℕ) → ((k : ℕ) → mem k xs ≡ true → kind_of U k ≡ kind_of T k) → TextsApart T xs
      → (is_text (kind_of U n) ≡ true → ends_in_text T xs ≡ false) → TextsApart U (xs ++ n ∷ [])
  texts-more [] n same apart ends = tt
  texts-more (x ∷ []) n same apart ends = (and-false (is_text (kind_of U x)) (is_text (kind_of U n)) (λ t. ap is_text (same x (mem-head x [])) ∙ ends t), tt)
  texts-more (x ∷ y ∷ xs) n same apart ends = (
    rw (same x (mem-head x (y ∷ xs)), same y (mem-tail y x (y ∷ xs) (mem-head y xs))) apart.0,
    texts-more (y ∷ xs) n (λ k h. same k (mem-tail k x (y ∷ xs) h)) apart.1 ends,
  )

-- what a content says of a number among the new kids or attributes
kid-kind : (c : Content) (k n : ℕ) → mem k (as_kid c n) ≡ true → (k ≡ n) × (can_be_kid (Some (kind_in c)) ≡ true)
kid-kind root k n h = absurd (true≢false (sym h))
kid-kind (element _ _) k n h = (mem-one k n h, refl)
kid-kind (attribute _ _) k n h = absurd (true≢false (sym h))
kid-kind (text _) k n h = (mem-one k n h, refl)
kid-kind (comment _) k n h = (mem-one k n h, refl)
kid-kind (instruction _ _) k n h = (mem-one k n h, refl)

-- the new attribute, by its name
record NewAttribute (T : Table) (p : ℕ) (c : Content) (a n : ℕ) : Type 0 where
  name : Name
  value : List ℕ
  is : c ≡ attribute name value
  same : a ≡ n
  fits : AttributeFits T p name

new-attribute : (T : Table) (p : ℕ) (c : Content) (a n : ℕ) → FitsUnder T p c → mem a (as_attribute c n) ≡ true → NewAttribute T p c a n
new-attribute T p root a n fits h = absurd (true≢false (sym h))
new-attribute T p (element _ _) a n fits h = absurd (true≢false (sym h))
new-attribute T p (attribute name value) a n fits h = record { name = name; value = value; is = refl; same = mem-one a n h; fits = fits }
new-attribute T p (text _) a n fits h = absurd (true≢false (sym h))
new-attribute T p (comment _) a n fits h = absurd (true≢false (sym h))
new-attribute T p (instruction _ _) a n fits h = absurd (true≢false (sym h))

module _ (T : Table) (p : ℕ) (c : Content) (live : is_live T p ≡ true) (fits : FitsUnder T p c) (holder : holds_kids (kind_of T p) ≡ true) (F : (m : ℕ) → Fits T m) where
  no-kind : kind_of T (length T) ≡ None
  no-kind = ap (λ e. kind_at (content_at e)) (get_or_past T (length T) None (omega arith))

  kid-old : (m k : ℕ) → mem k (kids_of T m) ≡ true → k ≢ length T
  kid-old m k h e = true≢false (sym ((F m).kid_kind k h) ∙ ap can_be_kid (ap (kind_of T) e ∙ no-kind))

  attribute-old : (m a : ℕ) → mem a (attrs_of T m) ≡ true → a ≢ length T
  attribute-old m a h e = let k : kind_of T a ≡ Some Attribute = (F m).attribute_kind a h in let n : kind_of T a ≡ None = ap (kind_of T) e ∙ no-kind in cc

  kind-kept : (m : ℕ) → m ≢ length T → kind_of (with_node T p c) m ≡ kind_of T m
  kind-kept m ne = ap kind_at (content-kept T p c live m ne)

  kind-new : kind_of (with_node T p c) (length T) ≡ Some (kind_in c)
  kind-new = ap (λ e. kind_at (content_at e)) (entry-new T p c live)

  expanded-kept : (m : ℕ) → m ≢ length T → expanded_of (with_node T p c) m ≡ expanded_of T m
  expanded-kept m ne = ap (λ e. expanded_in (name_at e)) (content-kept T p c live m ne)

  value-kept : (m : ℕ) → m ≢ length T → value_of (with_node T p c) m ≡ value_of T m
  value-kept m ne = ap value_at (content-kept T p c live m ne)

  -- where kids, attributes and the way up stay
  pub fits-other : (m : ℕ) → m ≢ length T → m ≢ p → length (ancestors (with_node T p c) m) ≡ length (ancestors T m) → Fits (with_node T p c) m
  fits-other m ne np way =
      let links : SameLinks T (with_node T p c) m = links-kept T p c live m ne np in
      let kid : (k : ℕ) → mem k (kids_of (with_node T p c) m) ≡ true → mem k (kids_of T m) ≡ true = λ k h. ap (mem k) (sym links.kids) ∙ h in
      let at : (a : ℕ) → mem a (attrs_of (with_node T p c) m) ≡ true → mem a (attrs_of T m) ≡ true = λ a h. ap (mem a) (sym links.attributes) ∙ h in
      record {
        one_root = λ h. (F m).one_root (sym (kind-kept m ne) ∙ h);
        kid_kind = λ k h. ap can_be_kid (kind-kept k (kid-old m k (kid k h))) ∙ (F m).kid_kind k (kid k h);
        attribute_kind = λ a h. kind-kept a (attribute-old m a (at a h)) ∙ (F m).attribute_kind a (at a h);
        holder_kind = λ k h. ap holds_kids (kind-kept m ne) ∙ (F m).holder_kind k (kid k h);
        owner_kind = λ a h. kind-kept m ne ∙ (F m).owner_kind a (at a h);
        names_differ = λ a b ha hb e. (F m).names_differ a b (at a ha) (at b hb)
            (sym (expanded-kept a (attribute-old m a (at a ha))) ∙ (e ∙ expanded-kept b (attribute-old m b (at b hb))));
        some_text = λ h empty. (F m).some_text (sym (kind-kept m ne) ∙ h) (sym (value-kept m ne) ∙ empty);
        texts_apart = rw links.kids (texts-kept T (with_node T p c) (kids_of T m) (λ k h. kind-kept k (kid-old m k h)) (F m).texts_apart);
        not_deep = λ h. rw way ((F m).not_deep (sym (kind-kept m ne) ∙ h));
      }

  parent-new : p ≢ length T
  parent-new = old-number T p c live p live

  kid-kind-kept : (k : ℕ) → mem k (kids_of T p) ≡ true → kind_of (with_node T p c) k ≡ kind_of T k
  kid-kind-kept k h = kind-kept k (kid-old p k h)

  kids-apart : (d : Content) → c ≡ d → FitsUnder T p d → TextsApart (with_node T p c) (kids_of T p ++ as_kid d (length T))
  kids-apart root e f = absurd f
  kids-apart (element name decls) e f =
      texts-more T (with_node T p c) (kids_of T p) (length T) kid-kind-kept (F p).texts_apart
      (λ t. absurd (true≢false (sym t ∙ ap is_text (kind-new ∙ ap (λ x. Some (kind_in x)) e))))
  kids-apart (attribute name value) e f = rw (append-nil (kids_of T p)) (texts-kept T (with_node T p c) (kids_of T p) kid-kind-kept (F p).texts_apart)
  kids-apart (text characters) e f = texts-more T (with_node T p c) (kids_of T p) (length T) kid-kind-kept (F p).texts_apart (λ _. f.apart)
  kids-apart (comment characters) e f =
      texts-more T (with_node T p c) (kids_of T p) (length T) kid-kind-kept (F p).texts_apart
      (λ t. absurd (true≢false (sym t ∙ ap is_text (kind-new ∙ ap (λ x. Some (kind_in x)) e))))
  kids-apart (instruction name characters) e f =
      texts-more T (with_node T p c) (kids_of T p) (length T) kid-kind-kept (F p).texts_apart
      (λ t. absurd (true≢false (sym t ∙ ap is_text (kind-new ∙ ap (λ x. Some (kind_in x)) e))))

  clash : (a b : ℕ) → mem a (attrs_of T p) ≡ true → mem b (as_attribute c (length T)) ≡ true → expanded_of (with_node T p c) a ≡ expanded_of (with_node T p c) b → ⊥
  clash a b ha hb e =
      let x : NewAttribute T p c b (length T) = new-attribute T p c b (length T) fits hb in
      let named : expanded_of (with_node T p c) b ≡ Some (expanded x.name) =
      ap (expanded_of (with_node T p c)) x.same ∙ (ap (λ o. expanded_in (name_at (content_at o))) (entry-new T p c live) ∙ ap (λ d. expanded_in (name_at (Some d))) x.is) in
      x.fits.is_new a ha (sym (expanded-kept a (attribute-old p a ha)) ∙ (e ∙ named))

  -- the parent
  pub fits-parent : length (ancestors (with_node T p c) p) ≡ length (ancestors T p) → Fits (with_node T p c) p
  fits-parent way =
      let kid : (k : ℕ) → mem k (kids_of (with_node T p c) p) ≡ true → (mem k (kids_of T p) ≡ true) ⊎ (mem k (as_kid c (length T)) ≡ true) =
      λ k h. mem-append k (kids_of T p) (as_kid c (length T)) (ap (mem k) (sym (kids-parent T p c live)) ∙ h) in
      let at : (a : ℕ) → mem a (attrs_of (with_node T p c) p) ≡ true → (mem a (attrs_of T p) ≡ true) ⊎ (mem a (as_attribute c (length T)) ≡ true) =
      λ a h. mem-append a (attrs_of T p) (as_attribute c (length T)) (ap (mem a) (sym (attributes-parent T p c live)) ∙ h) in
      record {
        one_root = λ h. (F p).one_root (sym (kind-kept p parent-new) ∙ h);
        kid_kind = λ k h. ⊎_elim (λ (o : mem k (kids_of T p) ≡ true). ap can_be_kid (kid-kind-kept k o) ∙ (F p).kid_kind k o)
            (λ (o : mem k (as_kid c (length T)) ≡ true). let x = kid-kind c k (length T) o in ap (λ m. can_be_kid (kind_of (with_node T p c) m)) x.0 ∙ (ap can_be_kid kind-new ∙ x.1)) (kid k h);
        attribute_kind = λ a h. ⊎_elim (λ (o : mem a (attrs_of T p) ≡ true). kind-kept a (attribute-old p a o) ∙ (F p).attribute_kind a o)
            (λ (o : mem a (as_attribute c (length T)) ≡ true).
            let x : NewAttribute T p c a (length T) = new-attribute T p c a (length T) fits o in ap (kind_of (with_node T p c)) x.same ∙ (kind-new ∙ ap (λ d. Some (kind_in d)) x.is)) (at a h);
        holder_kind = λ k h. ap holds_kids (kind-kept p parent-new) ∙ holder;
        owner_kind = λ a h. kind-kept p parent-new ∙ ⊎_elim (λ (o : mem a (attrs_of T p) ≡ true). (F p).owner_kind a o)
            (λ (o : mem a (as_attribute c (length T)) ≡ true). let x : NewAttribute T p c a (length T) = new-attribute T p c a (length T) fits o in x.fits.under) (at a h);
        names_differ = λ a b ha hb e. ⊎_elim
            (λ (oa : mem a (attrs_of T p) ≡ true). ⊎_elim
            (λ (ob : mem b (attrs_of T p) ≡ true). (F p).names_differ a b oa ob (sym (expanded-kept a (attribute-old p a oa)) ∙ (e ∙ expanded-kept b (attribute-old p b ob))))
            (λ (ob : mem b (as_attribute c (length T)) ≡ true). absurd (clash a b oa ob e)) (at b hb))
            (λ (oa : mem a (as_attribute c (length T)) ≡ true). ⊎_elim
            (λ (ob : mem b (attrs_of T p) ≡ true). absurd (clash b a ob oa (sym e)))
            (λ (ob : mem b (as_attribute c (length T)) ≡ true).
            let x : NewAttribute T p c a (length T) = new-attribute T p c a (length T) fits oa in
            let y : NewAttribute T p c b (length T) = new-attribute T p c b (length T) fits ob in x.same ∙ sym y.same) (at b hb)) (at a ha);
        some_text = λ h empty. (F p).some_text (sym (kind-kept p parent-new) ∙ h) (sym (value-kept p parent-new) ∙ empty);
        texts_apart = rw (kids-parent T p c live) (kids-apart c refl fits);
        not_deep = λ h. rw way ((F p).not_deep (sym (kind-kept p parent-new) ∙ h));
      }

  no-root : (d : Content) → FitsUnder T p d → kind_in d ≡ Root → ⊥
  no-root root f h = f
  no-root (element _ _) f h = cc
  no-root (attribute _ _) f h = cc
  no-root (text _) f h = cc
  no-root (comment _) f h = cc
  no-root (instruction _ _) f h = cc

  no-empty : (d : Content) → FitsUnder T p d → kind_in d ≡ Text → value_at (Some d) ≡ [] → ⊥
  no-empty root f h e = f
  no-empty (element _ _) f h e = cc
  no-empty (attribute _ _) f h e = cc
  no-empty (text _) f h e = f.some e
  no-empty (comment _) f h e = cc
  no-empty (instruction _ _) f h e = cc

  not-too-deep : (d : Content) → is_too_deep T p d ≡ false → kind_in d ≡ Element → length (above T p) ≤ MAX_DEPTH
  not-too-deep root f h = absurd (cc)
  not-too-deep (element _ _) f h = ltb-false MAX_DEPTH (length (above T p)) f
  not-too-deep (attribute _ _) f h = absurd (cc)
  not-too-deep (text _) f h = absurd (cc)
  not-too-deep (comment _) f h = absurd (cc)
  not-too-deep (instruction _ _) f h = absurd (cc)

  -- the new node
  pub fits-new : is_too_deep T p c ≡ false → length (ancestors (with_node T p c) (length T)) ≡ length (above T p) → Fits (with_node T p c) (length T)
  fits-new shallow way =
      let newest : entry_at (with_node T p c) (length T) ≡ Some (leaf p c) = entry-new T p c live in
      let kids : kids_of (with_node T p c) (length T) ≡ [] = ap kids_at newest in
      let ats : attrs_of (with_node T p c) (length T) ≡ [] = ap attrs_at newest in
      let kid : (k : ℕ) → mem k (kids_of (with_node T p c) (length T)) ≡ true → ⊥ = λ k h. true≢false (sym h ∙ ap (mem k) kids) in
      let at : (a : ℕ) → mem a (attrs_of (with_node T p c) (length T)) ≡ true → ⊥ = λ a h. true≢false (sym h ∙ ap (mem a) ats) in
      record {
        one_root = λ h. absurd (no-root c fits (let e : Some (kind_in c) ≡ Some Root = sym kind-new ∙ h in cc));
        kid_kind = λ k h. absurd (kid k h);
        attribute_kind = λ a h. absurd (at a h);
        holder_kind = λ k h. absurd (kid k h);
        owner_kind = λ a h. absurd (at a h);
        names_differ = λ a b ha hb e. absurd (at a ha);
        some_text = λ h empty. no-empty c fits (let e : Some (kind_in c) ≡ Some Text = sym kind-new ∙ h in cc) (sym (ap (λ o. value_at (content_at o)) newest) ∙ empty);
        texts_apart = rw kids tt;
        not_deep = λ h. rw way (not-too-deep c shallow (let e : Some (kind_in c) ≡ Some Element = sym kind-new ∙ h in cc));
      }
