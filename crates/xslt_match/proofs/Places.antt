-- Where the nodes of chains stand: a step from which the later steps lead on to a node stands at one of its places.
use Rattle.std.proofs.Common.{◌≡◌, ℕ, Bool, true, false, cond, ◌||◌, List, [], ◌∷◌, length, eqb, Option, None, Some, refl, sym, ap, ◌∙◌, subst, true≢false, arith, eqb-true}
use Rattle.std.specs.Prelude.{option_and_then}
use Rattle.doc_tree.specs.Laws.{WellFormed, Ordered, HasWaysUp}
use Rattle.doc_tree.specs.Lists.{mem}
use Rattle.doc_tree.specs.Table.{Table, parent_of}
use Rattle.doc_tree.specs.Walks.{above, ancestors, order}
use Rattle.doc_tree.proofs.ListLemmas.{mem-head, mem-one, mem-tail}
use Rattle.xp_typed_tree.specs.TypedTree.{TypedPatternStepTree}
use Rattle.xp_typed_tree.specs.WellTyped.{PatternStepsTyped}
use Rattle.xslt_ways.specs.Ways.{is_anywhere, looks_there}
use Rattle.xslt_ways.proofs.WayLemmas.{above_above}
use Rattle.xslt_match.specs.Matching.{leads, led_to, reaches}
use Rattle.xslt_match.specs.Names.{ancestor_over, places_from, some_anywhere, standing_places}
use Rattle.xslt_match.specs.inner.Leading.{fits, holder}
use Rattle.xslt_match.proofs.Filters.{Found, found, kept-passes, or-false}
use Rattle.xslt_match.proofs.StepsAlong.{leads_is, reaches_from}

either : {A : Type 0} (b c : Bool) → (b || c) ≡ true → (b ≡ true → A) → (c ≡ true → A) → A
either true c h k g = k refl
either false c h k g = g h

module _ (T : Table) (form : WellFormed T) (ord : Ordered T) (up : HasWaysUp T) where
  -- what stands above a node is its parent and what stands above that
  over-is : (n : ℕ) → ancestors T n ≡ places_from T true (parent_of T n)
  over-is n = by (parent_of T n) refl
    where
      by : (o : Option ℕ) → parent_of T n ≡ o → ancestors T n ≡ places_from T true o
      by None e = up.no_ancestors n e
      by (Some p) e = up.ancestors_at n p e

  -- a node above the parent of one that stands at a place or above it
  higher : (k p at : ℕ) (o : Option ℕ) → parent_of T at ≡ Some p → mem k (above T p) ≡ true → mem at (places_from T true o) ≡ true →
      mem k (places_from T true (option_and_then (parent_of T) o)) ≡ true
  higher k p at None e h i = absurd (true≢false (sym i))
  higher k p at (Some q) e h i =
      let over : mem k (ancestors T at) ≡ true = ap (mem k) (up.ancestors_at at p e) ∙ h in
      either (eqb at q) (mem at (ancestors T q)) i
      (λ same. ap (mem k) (sym (over-is q)) ∙ subst (λ j. mem k (ancestors T j) ≡ true) (eqb-true at q same) over)
      (λ more. by (parent_of T q) (ap (mem at) (sym (over-is q)) ∙ more) (mem-tail k at (ancestors T at) over))
    where
      by : (o : Option ℕ) → mem at (places_from T true o) ≡ true → mem k (above T at) ≡ true → mem k (places_from T true o) ≡ true
      by None here there = absurd (true≢false (sym here))
      by (Some r) here there = above_above T form ord up (length (ancestors T r)) k at r (omega arith) there here

  -- of places one of which may be alone, all are among those with what is above
  widened : (b : Bool) (o : Option ℕ) (m : ℕ) → mem m (places_from T b o) ≡ true → mem m (places_from T true o) ≡ true
  widened b None m h = absurd (true≢false (sym h))
  widened true (Some q) m h = h
  widened false (Some q) m h = subst (λ j. mem j (above T q) ≡ true) (sym (eqb-true m q (sym (or-false (eqb m q)) ∙ h))) (mem-head q (ancestors T q))

  -- one step back from a place
  back : (s : TypedPatternStepTree) (k at : ℕ) (b : Bool) (o : Option ℕ) → looks_there T (is_anywhere s.join) k (holder T s at) ≡ true → mem at (places_from T b o) ≡ true →
      mem k (places_from T (is_anywhere s.join || b) (option_and_then (parent_of T) o)) ≡ true
  back s k at b o looks i = by (fits T s at) (parent_of T at) refl (is_anywhere s.join) looks
    where
      alone : (q p : ℕ) → parent_of T at ≡ Some p → eqb k p ≡ true → mem at (q ∷ []) ≡ true → mem k (places_from T false (parent_of T q)) ≡ true
      alone q p e same here =
          let is : at ≡ q = eqb-true at q (sym (or-false (eqb at q)) ∙ here) in
          subst (λ j. mem k (places_from T false (parent_of T j)) ≡ true) is
          (subst (λ o. mem k (places_from T false o) ≡ true) (sym e) (or-false (eqb k p) ∙ same))

      beside : (c : Bool) (o : Option ℕ) (p : ℕ) → parent_of T at ≡ Some p → eqb k p ≡ true → mem at (places_from T c o) ≡ true → mem k (places_from T c (option_and_then (parent_of T) o)) ≡ true
      beside c None p e same here = absurd (true≢false (sym here))
      beside true (Some q) p e same here =
          higher k p at (Some q) e (subst (λ j. mem j (above T p) ≡ true) (sym (eqb-true k p same)) (mem-head p (ancestors T p))) here
      beside false (Some q) p e same here = alone q p e same here

      by : (f : Bool) (parent : Option ℕ) → parent_of T at ≡ parent → (j : Bool) → looks_there T j k (cond f parent None) ≡ true →
          mem k (places_from T (j || b) (option_and_then (parent_of T) o)) ≡ true
      by false parent e j g = absurd (true≢false (sym g))
      by true None e j g = absurd (true≢false (sym g))
      by true (Some p) e true g = higher k p at o e g (widened b o at i)
      by true (Some p) e false g = beside b o p e g i

  -- a node from which steps lead on to n stands at one of the places of a step before them
  pub reach-place : (ss : List TypedPatternStepTree) (k n : ℕ) → PatternStepsTyped ss → reaches T ss (k ∷ []) n ≡ true → mem k (standing_places T ss n) ≡ true
  reach-place [] k n typed h = subst (λ j. mem k (j ∷ []) ≡ true) (sym (mem-one n k h)) (mem-head k [])
  reach-place (s ∷ ss) k n typed h =
      let f : Found (λ j. reaches T ss (j ∷ []) n) (led_to T s (k ∷ [])) =
      found (λ j. reaches T ss (j ∷ []) n) (led_to T s (k ∷ [])) (sym (reaches_from T ss (led_to T s (k ∷ [])) n) ∙ h) in
      let leads_on : (leads T s k f.at || false) ≡ true = kept-passes (λ j. leads T s k j || false) f.at (order T) f.listed in
      back s k f.at (some_anywhere ss) (ancestor_over T ss n)
      (sym (leads_is T form ord up s k f.at typed.0) ∙ sym (or-false (leads T s k f.at)) ∙ leads_on)
      (reach-place ss f.at n typed.2 f.passes)
