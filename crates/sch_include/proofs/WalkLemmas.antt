-- A node and all below it: how many nodes, how much text, and how deep.
use Rattle.std.proofs.Common.{◌≡◌, ℕ, suc, ◌+◌, ◌<◌, ◌≤◌, Bool, true, false, cond, ◌||◌, List, [], ◌∷◌, ◌++◌, length, take, drop, sum_by, slice_index_or, Option, None, Some, refl, sym, ap, ◌∙◌, subst, arith, length-append}
use Rattle.std.specs.List.{find, flat_map, list_any}
use Rattle.std.proofs.lemmas.List.Folds.{list_any-append}
use Rattle.std.proofs.lemmas.List.Sums.{sum_by-append, sum_by-cons}
use Rattle.std.specs.Prelude.{◌&&◌, nat_lt}
use Rattle.std.proofs.lemmas.Bool.{le-ltb}
use Rattle.std.proofs.Math.Bool.{or-true}
use Rattle.sch_base.proofs.Lists.{cut-at, flat_map-cut, flat_map-next}
use Rattle.doc_tree.proofs.ListLemmas.{mem-get, mem-head, mem-tail}
use Rattle.doc_tree.specs.kind.Kind.TheVariants.{Attribute}
use Rattle.doc_tree.specs.Kinds.{is_element}
use Rattle.doc_tree.specs.Laws.{HasWaysUp, Ordered, WellFormed}
use Rattle.doc_tree.specs.limits.TheConstants.{MAX_DEPTH, MAX_LIVE_NODES, MAX_LIVE_TEXT_BYTES}
use Rattle.doc_tree.specs.Lists.{mem}
use Rattle.doc_tree.specs.Table.{Table, attrs_of, is_live, kids_of, kind_of, value_of}
use Rattle.doc_tree.specs.Walks.{ancestors, below}
use Rattle.sch_rules.specs.Elements.{document_element, first_or}
use Rattle.sch_include.specs.Taking.{text_below}
use Rattle.sch_include.specs.inner.Deep.{is_deep_at}
use Rattle.sch_include.specs.inner.Growing.{own_text}

pub mem-at : (xs : List ℕ) (i x : ℕ) → x ≡ slice_index_or xs i x → i < length xs → mem x xs ≡ true
mem-at xs i x is less = subst (λ n. mem n xs ≡ true) (sym is) (mem-get xs i x less)

module _ (T : Table) (n i kid : ℕ) (is : kid ≡ slice_index_or (kids_of T n) i kid) (less : i < length (kids_of T n)) where
  pub kid-here : mem kid (kids_of T n) ≡ true
  kid-here = mem-at (kids_of T n) i kid is less

  pub kid-lives : HasWaysUp T → is_live T kid ≡ true
  kid-lives ways = ways.kid_live n kid kid-here

  pub kid-depth : HasWaysUp T → WellFormed T → length (ancestors T kid) ≡ suc (length (ancestors T n))
  kid-depth ways formed = ap length (ways.ancestors_at kid n (formed.kid_parent n kid kid-here))

  pub kid-count : length (flat_map (below T) (take (i + 1) (kids_of T n))) ≡ length (flat_map (below T) (take i (kids_of T n))) + length (below T kid)
  kid-count = ap length (flat_map-next (below T) (kids_of T n) i kid is less) ∙ length-append (flat_map (below T) (take i (kids_of T n))) (below T kid)

  pub kid-bound : length (flat_map (below T) (take i (kids_of T n))) + length (below T kid) ≤ length (flat_map (below T) (kids_of T n))
  kid-bound =
      let front : List ℕ = flat_map (below T) (take i (kids_of T n)) in
      let back : List ℕ = flat_map (below T) (drop (suc i) (kids_of T n)) in
      omega (arith, ap length (flat_map-cut (below T) (kids_of T n) i kid is less), length-append (front ++ below T kid) back, length-append front (below T kid))

  pub kid-text : sum_by (λ m. length (value_of T m)) (flat_map (below T) (take (i + 1) (kids_of T n))) ≡ sum_by (λ m. length (value_of T m)) (flat_map (below T) (take i (kids_of T n))) + text_below T kid
  kid-text = ap (sum_by (λ m. length (value_of T m))) (flat_map-next (below T) (kids_of T n) i kid is less) ∙ sum_by-append (λ m. length (value_of T m)) (flat_map (below T) (take i (kids_of T n))) (below T kid)

  pub kid-text-bound : sum_by (λ m. length (value_of T m)) (flat_map (below T) (take i (kids_of T n))) + text_below T kid ≤ sum_by (λ m. length (value_of T m)) (flat_map (below T) (kids_of T n))
  kid-text-bound =
      let f : ℕ → ℕ = λ m. length (value_of T m) in
      let front : List ℕ = flat_map (below T) (take i (kids_of T n)) in
      let back : List ℕ = flat_map (below T) (drop (suc i) (kids_of T n)) in
      omega (arith, ap (sum_by f) (flat_map-cut (below T) (kids_of T n) i kid is less), sum_by-append f (front ++ below T kid) back, sum_by-append f front (below T kid))

  pub kid-deep : (p : ℕ → Bool) → list_any p (flat_map (below T) (take (i + 1) (kids_of T n))) ≡ (list_any p (flat_map (below T) (take i (kids_of T n))) || list_any p (below T kid))
  kid-deep p = ap (list_any p) (flat_map-next (below T) (kids_of T n) i kid is less) ∙ list_any-append p (flat_map (below T) (take i (kids_of T n))) (below T kid)

  pub kid-found : (p : ℕ → Bool) → list_any p (below T kid) ≡ true → list_any p (flat_map (below T) (kids_of T n)) ≡ true
  kid-found p found =
      let front : List ℕ = flat_map (below T) (take i (kids_of T n)) in
      let back : List ℕ = flat_map (below T) (drop (suc i) (kids_of T n)) in
      ap (list_any p) (flat_map-cut (below T) (kids_of T n) i kid is less)
      ∙ (list_any-append p (front ++ below T kid) back ∙ ap (λ b. b || list_any p back) (list_any-append p front (below T kid) ∙ (ap (λ b. list_any p front || b) found ∙ or-true (list_any p front))))

module _ (T : Table) (ordered : Ordered T) (n : ℕ) where
  pub below-count : length (below T n) ≡ suc (length (attrs_of T n)) + length (flat_map (below T) (kids_of T n))
  below-count = ap length (ordered.below_at n) ∙ omega (arith, length-append (attrs_of T n) (flat_map (below T) (kids_of T n)))

  pub below-bound : WellFormed T → is_live T n ≡ true → length (below T n) ≤ MAX_LIVE_NODES
  below-bound formed live =
      let at = ordered.below_in_order n live in
      omega (arith, formed.few_nodes, ap length at.2, length-append at.0 (below T n ++ at.1), length-append (below T n) at.1)

  pub text-count : text_below T n ≡ own_text T n + sum_by (λ m. length (value_of T m)) (flat_map (below T) (kids_of T n))
  text-count =
      let f : ℕ → ℕ = λ m. length (value_of T m) in
      ap (sum_by f) (ordered.below_at n) ∙ omega (arith, sum_by-cons f n (attrs_of T n ++ flat_map (below T) (kids_of T n)), sum_by-append f (attrs_of T n) (flat_map (below T) (kids_of T n)), sum_by-cons f n (attrs_of T n))

  pub text-bound : WellFormed T → is_live T n ≡ true → text_below T n ≤ MAX_LIVE_TEXT_BYTES
  text-bound formed live =
      let f : ℕ → ℕ = λ m. length (value_of T m) in
      let at = ordered.below_in_order n live in
      omega (arith, formed.little_text, ap (sum_by f) at.2, sum_by-append f at.0 (below T n ++ at.1), sum_by-append f (below T n) at.1)

  pub own-bound : WellFormed T → is_live T n ≡ true → (i a : ℕ) → a ≡ slice_index_or (attrs_of T n) i a → i < length (attrs_of T n) → (value : List ℕ) → value ≡ value_of T a →
      (length (value_of T n) + sum_by (λ m. length (value_of T m)) (take i (attrs_of T n))) + length value ≤ MAX_LIVE_TEXT_BYTES
  own-bound formed live i a is less value value_is =
      let f : ℕ → ℕ = λ m. length (value_of T m) in
      omega (
        arith,
        text-bound formed live,
        text-count,
        sum_by-cons f n (attrs_of T n),
        ap (sum_by f) (cut-at (attrs_of T n) i a is less),
        sum_by-append f (take i (attrs_of T n)) (a ∷ drop (suc i) (attrs_of T n)),
        sum_by-cons f a (drop (suc i) (attrs_of T n)),
        ap length value_is,
      )

  attributes-shallow : (above : ℕ) (ms : List ℕ) → ((a : ℕ) → mem a ms ≡ true → kind_of T a ≡ Some Attribute) → list_any (is_deep_at T above) ms ≡ false
  attributes-shallow above [] h = refl
  attributes-shallow above (a ∷ ms) h =
      let here : is_deep_at T above a ≡ false = rw (h a (mem-head a ms)) refl in
      rw here (attributes-shallow above ms (λ b among. h b (mem-tail b a ms among)))

  pub deep-count : (above : ℕ) → WellFormed T → list_any (is_deep_at T above) (below T n) ≡ (is_deep_at T above n || list_any (is_deep_at T above) (flat_map (below T) (kids_of T n)))
  deep-count above formed =
      let p : ℕ → Bool = is_deep_at T above in
      ap (list_any p) (ordered.below_at n)
      ∙ ap (λ b. p n || b) (list_any-append p (attrs_of T n) (flat_map (below T) (kids_of T n)) ∙ ap (λ b. b || list_any p (flat_map (below T) (kids_of T n))) (attributes-shallow above (attrs_of T n) (λ a among. formed.attribute_kind n a among)))

pub shallow-none : (T : Table) (n above : ℕ) → is_element (kind_of T n) ≡ false → is_deep_at T above n ≡ false
shallow-none T n above is = rw is refl

pub shallow-one : (T : Table) (n above : ℕ) → above + length (ancestors T n) ≤ MAX_DEPTH → is_deep_at T above n ≡ false
shallow-one T n above h = by (is_element (kind_of T n)) (le-ltb MAX_DEPTH (above + length (ancestors T n)) h)
  where
    by : (b : Bool) → nat_lt MAX_DEPTH (above + length (ancestors T n)) ≡ false → (b && nat_lt MAX_DEPTH (above + length (ancestors T n))) ≡ false
    by true e = e
    by false e = refl

found-here : (p : ℕ → Bool) (ks : List ℕ) (k : ℕ) → find p ks ≡ Some k → mem k ks ≡ true
found-here p [] k h = absurd (cc)
found-here p (j ∷ ks) k h = by (p j) h (found-here p ks k)
  where
    by : (b : Bool) → cond b (Some j) (find p ks) ≡ Some k → (find p ks ≡ Some k → mem k ks ≡ true) → mem k (j ∷ ks) ≡ true
    by true h rest = let same : j ≡ k = cc in subst (λ (m : ℕ). mem m (j ∷ ks) ≡ true) same (mem-head j ks)
    by false h rest = mem-tail k j ks (rest h)

pub element-lives : (T : Table) → Ordered T → HasWaysUp T → (n : ℕ) → n ≡ document_element T → is_live T n ≡ true
element-lives T ordered ways n is = subst (λ (m : ℕ). is_live T m ≡ true) (sym is) (by (find (λ k. is_element (kind_of T k)) (kids_of T 0)) refl)
  where
    by : (found : Option ℕ) → find (λ k. is_element (kind_of T k)) (kids_of T 0) ≡ found → is_live T (first_or 0 found) ≡ true
    by None e = ordered.live_in_order 0 ∙ (ap (mem 0) ordered.root_first.1 ∙ mem-head 0 ordered.root_first.0)
    by (Some k) e = ways.kid_live 0 k (found-here (λ k. is_element (kind_of T k)) (kids_of T 0) k e)
