-- Each number fits in a table with a piece put in.
use Rattle.std.proofs.Common.{◌≡◌, ◌≢◌, ℕ, ◌+◌, ◌≤◌, Bool, true, false, ◌&&◌, ◌||◌, List, [], ◌∷◌, ◌++◌, ◌⊎◌, length, map, take, drop, Option, None, Some, is_some, refl, sym, ap, ◌∙◌, inl, inr, ⊎_elim, arith}
use Rattle.std.specs.List.{list_any}
use Rattle.std.proofs.lemmas.List.{take-append-drop}
use Rattle.doc_table.specs.declared.kind.Kind.{Kind}
use Rattle.doc_table.specs.declared.kind.Kind.TheVariants.{Element}
use Rattle.doc_table.specs.declared.limits.TheConstants.{MAX_DEPTH}
use Rattle.doc_table.specs.Lists.{mem}
use Rattle.doc_table.specs.Table.{Table, Facts, entry_at, kids_at, attrs_at, content_at, kind_at, name_at, value_at, expanded_in, content_of, kids_of, attrs_of, kind_of, value_of, expanded_of, is_live}
use Rattle.doc_table.specs.Walks.{ancestors, above}
use Rattle.doc_table.specs.Growth.{ends_in_text}
use Rattle.doc_table.specs.Kinds.{holds_kids, is_text, can_be_kid}
use Rattle.doc_table.specs.Laws.{TextsApart}
use Rattle.doc_table.specs.inner.Sound.{Fits, Formed}
use Rattle.doc_table.proofs.ListLemmas.{In, In-mem, mem-In, occurs-append, mem-append, mem-head, mem-tail, In-cons}
use Rattle.doc_table.proofs.Fitting.{texts-kept}
use Rattle.doc_table.proofs.Paths.{SameLinks}
use Rattle.doc_table.proofs.TreeLaws.{ways-up, well-formed}
use Rattle.doc_edits.specs.Changes.{nodes_in, given_number, inserted}
use Rattle.doc_edits.specs.Fitting.{MayTake}
use Rattle.doc_edits.proofs.NumberingLemmas.{Mapped, mem-map}
use Rattle.doc_edits.proofs.InsertionLemmas.{IsOther, given-kids, given-attributes, given-content, content-kept, attributes-kept, kids-parent, links-kept, old-other, entry-new, nodes-flat, nodes-other}
use Rattle.doc_edits.proofs.InsertionWayLemmas.{inside, way-old}

and-left : (a b : Bool) → (a ≡ true → b ≡ false) → (a && b) ≡ false
and-left true b h = h refl
and-left false b h = refl

and-right : (a b : Bool) → (b ≡ true → a ≡ false) → (a && b) ≡ false
and-right true true h = h refl
and-right true false h = refl
and-right false b h = refl

or-none : (a : Bool) → (a || false) ≡ false → a ≡ false
or-none true h = h
or-none false h = refl

module _ (T U : Table) where
  -- texts stay apart where one more comes between them, and is none or meets none
  texts-behind : (n : ℕ) (ys : List ℕ) → ((k : ℕ) → mem k ys ≡ true → kind_of U k ≡ kind_of T k) → TextsApart T ys
      → (is_text (kind_of U n) ≡ true → list_any (λ k. is_text (kind_of T k)) (take 1 ys) ≡ false) → TextsApart U (n ∷ ys)
  texts-behind n [] same apart meets = tt
  texts-behind n (y ∷ ys) same apart meets = (
    and-left (is_text (kind_of U n)) (is_text (kind_of U y)) (λ t. ap is_text (same y (mem-head y ys)) ∙ or-none (is_text (kind_of T y)) (meets t)),
    texts-kept T U (y ∷ ys) same apart,
  )

  texts-between : (xs ys : List ℕ) (n : ℕ) → ((k : ℕ) → mem k (xs ++ ys) ≡ true → kind_of U k ≡ kind_of T k) → TextsApart T (xs ++ ys)
      → (is_text (kind_of U n) ≡ true → ends_in_text T xs ≡ false)
      → (is_text (kind_of U n) ≡ true → list_any (λ k. is_text (kind_of T k)) (take 1 ys) ≡ false) → TextsApart U (xs ++ n ∷ ys)
  texts-between [] ys n same apart ends meets = texts-behind n ys same apart meets
  texts-between (x ∷ []) ys n same apart ends meets = (
    and-right (is_text (kind_of U x)) (is_text (kind_of U n)) (λ t. ap is_text (same x (mem-head x ys)) ∙ ends t),
    texts-behind n ys (λ k h. same k (mem-tail k x ys h)) (rest x ys apart) meets,
  )
    where
      rest : (x : ℕ) (ys : List ℕ) → TextsApart T (x ∷ ys) → TextsApart T ys
      rest x [] apart = tt
      rest x (y ∷ ys) apart = apart.1
  texts-between (x ∷ y ∷ xs) ys n same apart ends meets = (
    rw (same x (mem-head x (y ∷ (xs ++ ys))), same y (mem-tail y x (y ∷ (xs ++ ys)) (mem-head y (xs ++ ys)))) apart.0,
    texts-between (y ∷ xs) ys n (λ k h. same k (mem-tail k x (y ∷ (xs ++ ys)) h)) apart.1 ends meets,
  )

  -- and under other numbers
  texts-mapped : (f : ℕ → ℕ) (xs : List ℕ) → ((k : ℕ) → mem k xs ≡ true → kind_of U (f k) ≡ kind_of T k) → TextsApart T xs → TextsApart U (map f xs)
  texts-mapped f [] same apart = tt
  texts-mapped f (x ∷ []) same apart = tt
  texts-mapped f (x ∷ y ∷ xs) same apart = (
    rw (same x (mem-head x (y ∷ xs)), same y (mem-tail y x (y ∷ xs) (mem-head y xs))) apart.0,
    texts-mapped f (y ∷ xs) (λ k h. same k (mem-tail k x (y ∷ xs) h)) apart.1,
  )

-- a number that has a kind is live
has-kind : (T : Table) (n : ℕ) {kind : Kind} → kind_of T n ≡ Some kind → is_live T n ≡ true
has-kind T n {kind = kind} h = by (entry_at T n) h
  where
    by : (o : Option Facts) → kind_at (content_at o) ≡ Some kind → is_some o ≡ true
    by None e = absurd (cc)
    by (Some node) e = refl

module _ (T P : Table) (p before : ℕ) (live : is_live T p ≡ true) (t : Formed T) (f : Formed P) where
  abbrev U : Table
  U = inserted T p before P

  abbrev number : ℕ → ℕ
  number = given_number T P

  kid-old : (m k : ℕ) → mem k (kids_of T m) ≡ true → IsOther T P k
  kid-old m k h = old-other T P p before live k ((ways-up T t).kid_live m k h)

  attribute-old : (m a : ℕ) → mem a (attrs_of T m) ≡ true → IsOther T P a
  attribute-old m a h = old-other T P p before live a ((ways-up T t).attribute_live m a h)

  kind-kept : (m : ℕ) → IsOther T P m → kind_of U m ≡ kind_of T m
  kind-kept m o = ap kind_at (content-kept T P p before live m o)

  expanded-kept : (m : ℕ) → IsOther T P m → expanded_of U m ≡ expanded_of T m
  expanded-kept m o = ap (λ e. expanded_in (name_at e)) (content-kept T P p before live m o)

  value-kept : (m : ℕ) → IsOther T P m → value_of U m ≡ value_of T m
  value-kept m o = ap value_at (content-kept T P p before live m o)

  -- where kids and attributes stay
  pub fits-other : (m : ℕ) → IsOther T P m → m ≢ p → Fits U m
  fits-other m o np =
      let F : Fits T m = t.fits m in
      let links : SameLinks T U m = links-kept T P p before live m o np in
      let kid : (k : ℕ) → mem k (kids_of U m) ≡ true → mem k (kids_of T m) ≡ true = λ k h. ap (mem k) (sym links.kids) ∙ h in
      let at : (a : ℕ) → mem a (attrs_of U m) ≡ true → mem a (attrs_of T m) ≡ true = λ a h. ap (mem a) (sym links.attributes) ∙ h in
      record {
        one_root = λ h. F.one_root (sym (kind-kept m o) ∙ h);
        kid_kind = λ k h. ap can_be_kid (kind-kept k (kid-old m k (kid k h))) ∙ F.kid_kind k (kid k h);
        attribute_kind = λ a h. kind-kept a (attribute-old m a (at a h)) ∙ F.attribute_kind a (at a h);
        holder_kind = λ k h. ap holds_kids (kind-kept m o) ∙ F.holder_kind k (kid k h);
        owner_kind = λ a h. kind-kept m o ∙ F.owner_kind a (at a h);
        names_differ = λ a b ha hb e. F.names_differ a b (at a ha) (at b hb)
            (sym (expanded-kept a (attribute-old m a (at a ha))) ∙ (e ∙ expanded-kept b (attribute-old m b (at b hb))));
        some_text = λ h empty. F.some_text (sym (kind-kept m o) ∙ h) (sym (value-kept m o) ∙ empty);
        texts_apart = rw links.kids (texts-kept T U (kids_of T m) (λ k h. kind-kept k (kid-old m k h)) F.texts_apart);
        not_deep = λ h. let element = sym (kind-kept m o) ∙ h in
            omega (arith, F.not_deep element, ap length (way-old T P p before live t.forest t.whole m (has-kind T m element)));
      }

  content-new : (m : ℕ) → In m (nodes_in P) → content_of U (number m) ≡ content_of P m
  content-new m h = ap content_at (entry-new T P p before live m h) ∙ given-content number p (entry_at P m)

  kind-new : (m : ℕ) → In m (nodes_in P) → kind_of U (number m) ≡ kind_of P m
  kind-new m h = ap kind_at (content-new m h)

  expanded-new : (m : ℕ) → In m (nodes_in P) → expanded_of U (number m) ≡ expanded_of P m
  expanded-new m h = ap (λ e. expanded_in (name_at e)) (content-new m h)

  value-new : (m : ℕ) → In m (nodes_in P) → value_of U (number m) ≡ value_of P m
  value-new m h = ap value_at (content-new m h)

  kid-inside : (m k : ℕ) → mem k (kids_of P m) ≡ true → In k (nodes_in P)
  kid-inside m k h = inside P f k m ((well-formed P f).kid_parent m k h)

  attribute-inside : (m a : ℕ) → mem a (attrs_of P m) ≡ true → In a (nodes_in P)
  attribute-inside m a h = inside P f a m ((well-formed P f).attribute_parent m a h)

  -- a new node
  pub fits-new : (m : ℕ) → In m (nodes_in P) → length (ancestors U (number m)) + 1 ≡ length (above T p) + length (ancestors P m)
      → (kind_of P m ≡ Some Element → length (above T p) + length (ancestors P m) ≤ MAX_DEPTH + 1) → Fits U (number m)
  fits-new m h way shallow =
      let F : Fits P m = f.fits m in
      let kids : kids_of U (number m) ≡ map number (kids_of P m) = ap kids_at (entry-new T P p before live m h) ∙ given-kids number p (entry_at P m) in
      let ats : attrs_of U (number m) ≡ map number (attrs_of P m) = ap attrs_at (entry-new T P p before live m h) ∙ given-attributes number p (entry_at P m) in
      let kid : (k : ℕ) → mem k (kids_of U (number m)) ≡ true → Mapped number (kids_of P m) k = λ k g. mem-map number k (kids_of P m) (ap (mem k) (sym kids) ∙ g) in
      let at : (a : ℕ) → mem a (attrs_of U (number m)) ≡ true → Mapped number (attrs_of P m) a = λ a g. mem-map number a (attrs_of P m) (ap (mem a) (sym ats) ∙ g) in
      let listed_kid : (k : ℕ) → (r : Mapped number (kids_of P m) k) → mem r.number (kids_of P m) ≡ true = λ k r. In-mem r.number (kids_of P m) r.here in
      let listed : (a : ℕ) → (r : Mapped number (attrs_of P m) a) → mem r.number (attrs_of P m) ≡ true = λ a r. In-mem r.number (attrs_of P m) r.here in
      record {
        one_root = λ g. absurd (nodes-other P f.forest f.whole (nodes-flat P f) m h (F.one_root (sym (kind-new m h) ∙ g)));
        kid_kind = λ k g. let r = kid k g in
            ap (λ n. can_be_kid (kind_of U n)) r.is ∙ (ap can_be_kid (kind-new r.number (kid-inside m r.number (listed_kid k r))) ∙ F.kid_kind r.number (listed_kid k r));
        attribute_kind = λ a g. let r = at a g in
            ap (kind_of U) r.is ∙ (kind-new r.number (attribute-inside m r.number (listed a r)) ∙ F.attribute_kind r.number (listed a r));
        holder_kind = λ k g. let r = kid k g in ap holds_kids (kind-new m h) ∙ F.holder_kind r.number (listed_kid k r);
        owner_kind = λ a g. let r = at a g in kind-new m h ∙ F.owner_kind r.number (listed a r);
        names_differ = λ a b ha hb e. let r = at a ha in let s = at b hb in
            r.is ∙ (ap number (F.names_differ r.number s.number (listed a r) (listed b s)
            (sym (expanded-new r.number (attribute-inside m r.number (listed a r))) ∙ (ap (expanded_of U) (sym r.is) ∙ (e ∙ (ap (expanded_of U) s.is ∙ expanded-new s.number (attribute-inside m s.number (listed b s)))))))
            ∙ sym s.is);
        some_text = λ g empty. F.some_text (sym (kind-new m h) ∙ g) (sym (value-new m h) ∙ empty);
        texts_apart = rw kids (texts-mapped P U number (kids_of P m) (λ k g. kind-new k (kid-inside m k g)) F.texts_apart);
        not_deep = λ g. omega (arith, way, shallow (sym (kind-new m h) ∙ g));
      }

  -- the node under which it comes
  pub fits-parent : (m : MayTake T p before P) → number m.top ≡ length T → Fits U p
  fits-parent may first =
      let F : Fits T p = t.fits p in
      let old : IsOther T P p = old-other T P p before live p live in
      let listed_top : mem may.top (kids_of P 0) ≡ true = ap (mem may.top) may.one ∙ mem-head may.top [] in
      let top_in : In may.top (nodes_in P) = kid-inside 0 may.top listed_top in
      let kind_top : kind_of U (length T) ≡ kind_of P may.top = ap (kind_of U) (sym first) ∙ kind-new may.top top_in in
      let parts : take before (kids_of T p) ++ drop before (kids_of T p) ≡ kids_of T p = take-append-drop before (kids_of T p) in
      let kids : kids_of U p ≡ take before (kids_of T p) ++ length T ∷ drop before (kids_of T p) = kids-parent T P p before live in
      let among : (k : ℕ) → mem k (take before (kids_of T p) ++ drop before (kids_of T p)) ≡ true → mem k (kids_of T p) ≡ true = λ k h. ap (mem k) (sym parts) ∙ h in
      let kid : (k : ℕ) → mem k (kids_of U p) ≡ true → (k ≡ length T) ⊎ (mem k (kids_of T p) ≡ true) = λ k h. which k (take before (kids_of T p)) (drop before (kids_of T p)) (ap (mem k) (sym kids) ∙ h) among in
      let ats : attrs_of U p ≡ attrs_of T p = attributes-kept T P p before live p old in
      let at : (a : ℕ) → mem a (attrs_of U p) ≡ true → mem a (attrs_of T p) ≡ true = λ a h. ap (mem a) (sym ats) ∙ h in
      record {
        one_root = λ h. F.one_root (sym (kind-kept p old) ∙ h);
        kid_kind = λ k h. ⊎_elim (λ (e : k ≡ length T). ap (λ n. can_be_kid (kind_of U n)) e ∙ (ap can_be_kid kind_top ∙ (f.fits 0).kid_kind may.top listed_top))
            (λ (g : mem k (kids_of T p) ≡ true). ap can_be_kid (kind-kept k (kid-old p k g)) ∙ F.kid_kind k g) (kid k h);
        attribute_kind = λ a h. kind-kept a (attribute-old p a (at a h)) ∙ F.attribute_kind a (at a h);
        holder_kind = λ k h. ap holds_kids (kind-kept p old) ∙ may.under;
        owner_kind = λ a h. kind-kept p old ∙ F.owner_kind a (at a h);
        names_differ = λ a b ha hb e. F.names_differ a b (at a ha) (at b hb)
            (sym (expanded-kept a (attribute-old p a (at a ha))) ∙ (e ∙ expanded-kept b (attribute-old p b (at b hb))));
        some_text = λ h empty. F.some_text (sym (kind-kept p old) ∙ h) (sym (value-kept p old) ∙ empty);
        texts_apart = rw kids (texts-between T U (take before (kids_of T p)) (drop before (kids_of T p)) (length T) (λ k h. kind-kept k (kid-old p k (among k h)))
            (rw parts F.texts_apart) (λ h. may.apart_left (ap is_text (sym kind_top) ∙ h)) (λ h. may.apart (ap is_text (sym kind_top) ∙ h)));
        not_deep = λ h. omega (arith, F.not_deep (sym (kind-kept p old) ∙ h), ap length (way-old T P p before live t.forest t.whole p live));
      }
    where
      which : (k : ℕ) (xs ys : List ℕ) → mem k (xs ++ length T ∷ ys) ≡ true → ((n : ℕ) → mem n (xs ++ ys) ≡ true → mem n (kids_of T p) ≡ true) → (k ≡ length T) ⊎ (mem k (kids_of T p) ≡ true)
      which k xs ys h among =
          ⊎_elim (λ (g : mem k xs ≡ true). inr (among k (In-mem k (xs ++ ys) (let i : In k xs = mem-In k xs g in omega (arith, i, occurs-append k xs ys)))))
          (λ (g : mem k (length T ∷ ys) ≡ true). ⊎_elim (λ (e : k ≡ length T). inl e)
          (λ (i : In k ys). inr (among k (In-mem k (xs ++ ys) (omega (arith, i, occurs-append k xs ys)))))
          (In-cons k (length T) ys (mem-In k (length T ∷ ys) g)))
          (mem-append k xs (length T ∷ ys) h)
