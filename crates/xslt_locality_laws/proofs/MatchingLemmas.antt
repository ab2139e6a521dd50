-- Matching in two trees: the same nodes stand at each step, and each of them survives its test in both or in neither.
use Rattle.std.proofs.Common.{◌≡◌, ℕ, ◌+◌, Bool, true, false, cond, ◌&&◌, ◌||◌, List, [], ◌∷◌, ◌++◌, eqb, map, Option, None, Some, Ok, refl, sym, ap, ap₂, ◌∙◌, subst, true≢false}
use Rattle.std.specs.Prelude.{filter, option_and_then, if◌then◌else◌}
use Rattle.std.specs.List.{list_any}
use Rattle.doc_tree.specs.cell.Cell.{Cell}
use Rattle.doc_tree.specs.cell.Cell.TheVariants.{Name}
use Rattle.doc_tree.specs.declared.axes.Axis.{Axis}
use Rattle.doc_tree.specs.declared.axes.Axis.TheVariants as axes
use Rattle.doc_tree.specs.Lists.{mem}
use Rattle.doc_tree.specs.Table.{Table, kind_of, parent_of}
use Rattle.doc_tree.specs.Walks.{above, ancestors, order}
use Rattle.doc_tree.proofs.ListLemmas.{mem-head, mem-tail}
use Rattle.doc_axes.specs.Axes.{is_ancestor, is_attribute_kind, on_axis}
use Rattle.doc_axes.specs.NodeTests.{is_principal}
use Rattle.doc_edit_laws.specs.Agreement.{AllStay, Stays}
use Rattle.xp_typed_tree.specs.TypedTree.{TypedPatternStepTree, TypedPathTree}
use Rattle.xp_typed_tree.specs.WellTyped.{PathsTyped, PatternStepsTyped, is_pattern_axis}
use Rattle.xp_outcome.specs.Cells.{names_on}
use Rattle.xp_outcome.specs.Evaluation.{Evaluation, Read, all_reading, bind, cell, done, gather, visit}
use Rattle.xp_values.specs.declared.values.EvalFault.{EvalFault}
use Rattle.xp_meaning.specs.Evaluation.{Lets, meanings, all_true}
use Rattle.xp_meaning.specs.Paths.{placed, step_at}
use Rattle.xp_meaning.specs.Reads.{is_by_name}
use Rattle.xp_meaning.proofs.Choices.{came_before, same_ok}
use Rattle.xp_locality_laws.specs.Locality.{AllKept, Changed, PredicatesAreLocal, StepsAreLocal}
use Rattle.xp_locality_laws.proofs.NameLemmas.{name-kept, same-test}
use Rattle.xp_locality_laws.proofs.FunctionLemmas.{same-ancestors}
use Rattle.xp_locality_laws.proofs.StandLemmas.{Same, kept_back, kept_front, no_nodes, same-all_reading, same-bind, same-bind-answered, same-cond, same-done, same-equal, same-gather, same-made, same-visit}
use Rattle.xp_locality_laws.proofs.TestLemmas.{Alike, alike-mem, alike-or, alike-self, either, filter-alike, order-stays, orders-filtered, stay-filter, stay-mem}
use Rattle.xslt_match.specs.Ways.{is_anywhere, looks_there}
use Rattle.xslt_match.specs.Matching.{chains, is_left, leads, led_to, path_matches, reaches, some_path, standing, starts, step_of, survives, survivors}
use Rattle.xslt_match.specs.Names.{ancestor_over, pattern_names, place_names, places_from, some_anywhere, standing_places, step_names}
use Rattle.xslt_match.specs.Positional.{some_positional}
use Rattle.xslt_match.specs.inner.Leading.{fits, holder, is_beside}
use Rattle.xslt_match.proofs.Filters.{any-same, any-swap, filter-swap, kept-passes}
use Rattle.xslt_match.proofs.Places.{reach-place}
use Rattle.xslt_match.proofs.StepsAlong.{leads_is, reach_above, reaches_from}
use Rattle.xslt_locality_laws.specs.Locality.{PatternsAreLocal}

any-alike : (T U : Table) (p q : ℕ → Bool) (ns : List ℕ) → ((k : ℕ) → mem k ns ≡ true → Stays T U k → p k ≡ q k) → AllStay T U ns →
    list_any p ns ≡ list_any q ns
any-alike T U p q [] agree h = refl
any-alike T U p q (n ∷ ns) agree h =
    let here = agree n (mem-head n ns) h.0 in
    let more = any-alike T U p q ns (λ k is. agree k (mem-tail k n ns is)) h.1 in
    λ i. here i || more i

-- the nodes that survive are among those that are tested
surviving-among : (act : ℕ → ℕ → Evaluation EvalFault Bool) (i : ℕ) (ns ks : List ℕ) →
    (gather act (λ _ k b. if b then k ∷ [] else []) i ns).answer ≡ Ok ks → (k : ℕ) → mem k ks ≡ true → mem k ns ≡ true
unfolding done
surviving-among act i [] ks is k here = subst (λ l. mem k l ≡ true) (sym (same_ok {F = EvalFault} [] ks is)) here
surviving-among act i (n ∷ ns) ks is k here =
    let one = came_before (act i n) (λ b. bind (gather act (λ _ j b. if b then j ∷ [] else []) (i + 1) ns) (λ rest. done ((if b then n ∷ [] else []) ++ rest))) ks is in
    let more = came_before (gather act (λ _ j b. if b then j ∷ [] else []) (i + 1) ns) (λ rest. done ((if one.first then n ∷ [] else []) ++ rest)) ks one.then in
    by more.first one.first (subst (λ l. mem k l ≡ true) (sym (same_ok {F = EvalFault} ((if one.first then n ∷ [] else []) ++ more.first) ks more.then)) here)
    (surviving-among act (i + 1) ns more.first more.is k)
  where
    by : (rest : List ℕ) (b : Bool) → mem k ((if b then n ∷ [] else []) ++ rest) ≡ true → (mem k rest ≡ true → mem k ns ≡ true) →
        mem k (n ∷ ns) ≡ true
    by rest true h later = either (eqb k n) (mem k rest) h (λ e. ap (λ c. c || mem k ns) e) (λ e. mem-tail k n ns (later e))
    by rest false h later = mem-tail k n ns (later h)

module _ (T U : Table) (touched : Cell → Bool) (L M : Lets) (changed : Changed T U touched) where
  parent-stays : (n p : ℕ) → Stays T U n → parent_of T n ≡ Some p → Stays T U p
  parent-stays n p h e = (subst (AllStay T U) (changed.before.ways_up.ancestors_at n p e) (same-ancestors T U touched L M changed n h).1).0

  -- the name of a node was kept, where the step's test looks at it
  abbrev NameKept : TypedPatternStepTree → ℕ → Type 0
  NameKept s k = is_by_name s.test ≡ true → is_principal s.axis (kind_of T k) ≡ true → touched (Name k) ≡ false

  cells-kept : (cs : List Cell) → AllKept T U touched L M (map cell cs) → list_any touched cs ≡ false
  cells-kept [] h = refl
  cells-kept (c ∷ cs) h = ap₂ (λ a b. a || b) h.0 (cells-kept cs h.1)

  places-kept : (b : Bool) (axis : Axis) (ns : List ℕ) → AllKept T U touched L M (cond b (map cell (names_on T axis ns)) []) →
      (k : ℕ) → mem k ns ≡ true → b ≡ true → is_principal axis (kind_of T k) ≡ true → touched (Name k) ≡ false
  places-kept true axis ns h k here by_name principal = name-kept T touched axis ns (cells-kept (names_on T axis ns) h) k here principal
  places-kept false axis ns h k here by_name principal = absurd (true≢false (sym by_name))

  -- a node of both trees passes a node test in both or in neither
  holder-same : (s : TypedPatternStepTree) (k : ℕ) → Stays T U k → NameKept s k → holder T s k ≡ holder U s k
  holder-same s k h named =
      let fit : fits T s k ≡ fits U s k =
      ap₂ (λ kind b. is_beside s.axis (is_attribute_kind kind) && b) (changed.agree.kind k h) (same-test T U touched L M changed s.axis s.test k h named) in
      ap₂ (λ b o. cond b o None) fit (changed.agree.parent k h)

  looks-same : (anywhere : Bool) (m : ℕ) (s : TypedPatternStepTree) (k : ℕ) → Stays T U k → looks_there T anywhere m (holder T s k) ≡ looks_there U anywhere m (holder T s k)
  looks-same anywhere m s k h = by anywhere (fits T s k) (parent_of T k) refl
    where
      by : (anywhere b : Bool) (o : Option ℕ) → parent_of T k ≡ o → looks_there T anywhere m (cond b o None) ≡ looks_there U anywhere m (cond b o None)
      by anywhere false o e = refl
      by anywhere true None e = refl
      by true true (Some p) e = ap (λ l. mem m (p ∷ l)) (same-ancestors T U touched L M changed p (parent-stays k p h e)).0
      by false true (Some p) e = refl

  -- a step leads to a node of both trees from the same nodes
  leads-same : (s : TypedPatternStepTree) (m k : ℕ) → is_pattern_axis s.axis ≡ true → Stays T U k → NameKept s k → leads T s m k ≡ leads U s m k
  leads-same s m k axis h named =
      leads_is T changed.before.well_formed changed.before.ordered changed.before.ways_up s m k axis
      ∙ looks-same (is_anywhere s.join) m s k h
      ∙ ap (looks_there U (is_anywhere s.join) m) (holder-same s k h named)
      ∙ sym (leads_is U changed.after.well_formed changed.after.ordered changed.after.ways_up s m k axis)

  led-same : (s : TypedPatternStepTree) (ms : List ℕ) (k : ℕ) → is_pattern_axis s.axis ≡ true → Stays T U k → NameKept s k →
      list_any (λ m. leads T s m k) ms ≡ list_any (λ m. leads U s m k) ms
  led-same s ms k axis h named = any-same (λ m. leads T s m k) (λ m. leads U s m k) ms (λ m. leads-same s m k axis h named)

  module _ (n : ℕ) (here : Stays T U n) where
    -- the nodes from which steps lead on to n are above it, and so live in both; they are the same where they come out alike
    ahead-alike : (ss : List TypedPatternStepTree) → PatternStepsTyped ss → ((k : ℕ) → Stays T U k → reaches T ss (k ∷ []) n ≡ reaches U ss (k ∷ []) n) →
        Alike T U (λ k. reaches T ss (k ∷ []) n) (λ k. reaches U ss (k ∷ []) n)
    ahead-alike ss typed same =
        let up = same-ancestors T U touched L M changed n here in
        record {
          stays = λ k _ h. stay-mem T U (above T n) (here, up.1) k
              (reach_above T changed.before.well_formed changed.before.ordered changed.before.ways_up ss k n typed h);
          stays_after = λ k _ h. stay-mem T U (above T n) (here, up.1) k
              (ap (λ l. mem k (n ∷ l)) up.0 ∙ reach_above U changed.after.well_formed changed.after.ordered changed.after.ways_up ss k n typed h);
          agree = same;
        }

    -- the names that steps look at were kept
    abbrev NamesKept : List TypedPatternStepTree → Type 0
    NamesKept ss = AllKept T U touched L M (step_names T n ss)

    later-kept : (s : TypedPatternStepTree) (ss : List TypedPatternStepTree) → NamesKept (s ∷ ss) → NamesKept ss
    later-kept s ss names = kept_front T U touched L M (step_names T n ss) (place_names T s.axis s.test (standing_places T ss n)) names

    -- and so those of the nodes from which the later steps lead on
    led-kept : (s : TypedPatternStepTree) (ss : List TypedPatternStepTree) → PatternStepsTyped ss → NamesKept (s ∷ ss) →
        (k : ℕ) → reaches T ss (k ∷ []) n ≡ true → NameKept s k
    led-kept s ss typed names k on =
        places-kept (is_by_name s.test) s.axis (standing_places T ss n)
        (kept_back T U touched L M (step_names T n ss) (place_names T s.axis s.test (standing_places T ss n)) names) k
        (reach-place T changed.before.well_formed changed.before.ordered changed.before.ways_up ss k n typed on)

    -- and they do
    reaches-same : (ss : List TypedPatternStepTree) → PatternStepsTyped ss → NamesKept ss → (k : ℕ) → Stays T U k →
        reaches T ss (k ∷ []) n ≡ reaches U ss (k ∷ []) n
    reaches-same [] typed names k h = refl
    reaches-same (s ∷ ss) typed names k h =
        let before : ℕ → Bool = λ j. reaches T ss (j ∷ []) n in
        let after : ℕ → Bool = λ j. reaches U ss (j ∷ []) n in
        let alike : Alike T U before after = ahead-alike ss typed.2 (reaches-same ss typed.2 (later-kept s ss names)) in
        reaches_from T ss (led_to T s (k ∷ [])) n
        ∙ any-swap before (λ j. leads T s k j || false) (order T)
        ∙ any-alike T U (λ j. leads T s k j || false) (λ j. leads U s k j || false) (filter before (order T))
        (λ j is stays. ap (λ b. b || false) (leads-same s k j typed.0 stays (led-kept s ss typed.2 names j (kept-passes before j (order T) is))))
        (order-stays T U touched changed before after alike)
        ∙ ap (list_any (λ j. leads U s k j || false)) (orders-filtered T U touched changed before after alike)
        ∙ sym (any-swap after (λ j. leads U s k j || false) (order U))
        ∙ sym (reaches_from U ss (led_to U s (k ∷ [])) n)

    standing-same : (s : TypedPatternStepTree) (ss : List TypedPatternStepTree) (ms : List ℕ) → PatternStepsTyped (s ∷ ss) → NamesKept (s ∷ ss) →
        (standing T s ss ms n ≡ standing U s ss ms n) × AllStay T U (standing T s ss ms n)
    standing-same s ss ms typed names =
        let before : ℕ → Bool = λ k. reaches T ss (k ∷ []) n in
        let after : ℕ → Bool = λ k. reaches U ss (k ∷ []) n in
        let alike : Alike T U before after = ahead-alike ss typed.2 (reaches-same ss typed.2 (later-kept s ss names)) in
        let stay : AllStay T U (filter before (order T)) = order-stays T U touched changed before after alike in
        let led : ℕ → Bool = λ k. list_any (λ m. leads T s m k) ms in
        let led_after : ℕ → Bool = λ k. list_any (λ m. leads U s m k) ms in
        let swapped : standing T s ss ms n ≡ filter led (filter before (order T)) = filter-swap before led (order T) in (
          swapped
              ∙ filter-alike T U led led_after (filter before (order T))
              (λ k is h. led-same s ms k typed.0 h (led-kept s ss typed.2 names k (kept-passes before k (order T) is))) stay
              ∙ ap (filter led_after) (orders-filtered T U touched changed before after alike)
              ∙ filter-swap led_after after (order U),
          subst (AllStay T U) (sym swapped) (stay-filter T U led (filter before (order T)) stay),
        )

    starts-same : (from_root : Bool) → starts T from_root n ≡ starts U from_root n
    starts-same true = refl
    starts-same false =
        let up = same-ancestors T U touched L M changed n here in
        orders-filtered T U touched changed (on_axis T axes.AncestorOrSelf n) (on_axis U axes.AncestorOrSelf n)
        (alike-or T U (is_ancestor T n) (is_ancestor U n) (λ m. eqb m n) (λ m. eqb m n) (alike-mem T U (ancestors T n) (ancestors U n) up.0 up.1) (alike-self T U n here))

    module _ (steps : StepsAreLocal) (predicates : PredicatesAreLocal) where
      left-same : (s : TypedPatternStepTree) (k : ℕ) (o : Option ℕ) → ((p : ℕ) → o ≡ Some p → Stays T U p) →
          Same T U touched L M no_nodes (is_left T (step_of T L s) n k o) (is_left U (step_of U M s) n k o)
      left-same s k None h = same-done T U touched L M no_nodes false tt
      left-same s k (Some p) h =
          same-made T U touched L M (λ ms. ms) no_nodes (step_at T (step_of T L s) n p) (step_at U (step_of U M s) n p) (λ ms. mem k ms) (λ ms. mem k ms)
          (record { go = steps T U touched L M s.axis s.test s.predicates n p changed here (h p refl) }) (λ ms stay. (refl, tt))

      survives-same : (s : TypedPatternStepTree) (k : ℕ) → Stays T U k → Same T U touched L M no_nodes (survives T L s n k) (survives U M s n k)
      survives-same s k h =
          same-cond T U touched L M no_nodes (some_positional s.predicates)
          (is_left T (step_of T L s) n k (parent_of T k)) (visit (all_true (meanings T L s.predicates) (placed n 1 1 k)))
          (is_left U (step_of U M s) n k (parent_of U k)) (visit (all_true (meanings U M s.predicates) (placed n 1 1 k)))
          (subst (λ o. Same T U touched L M no_nodes (is_left T (step_of T L s) n k (parent_of T k)) (is_left U (step_of U M s) n k o)) (changed.agree.parent k h)
          (left-same s k (parent_of T k) (λ p e. parent-stays k p h e)))
          (same-visit T U touched L M no_nodes (all_true (meanings T L s.predicates) (placed n 1 1 k)) (all_true (meanings U M s.predicates) (placed n 1 1 k))
          (record { go = predicates T U touched L M s.predicates (placed n 1 1 k) changed (record { node = h; current = here }) }))

      survivors-same : (s : TypedPatternStepTree) (ks : List ℕ) → AllStay T U ks → Same T U touched L M (λ ms. ms) (survivors T L s n ks) (survivors U M s n ks)
      survivors-same s ks all =
          same-gather T U touched L M no_nodes (λ _ k. survives T L s n k) (λ _ k. survives U M s n k) (λ _ k b. if b then k ∷ [] else [])
          (λ i k h. survives-same s k h) (λ i k b h _. alone k b h) 1 ks all
        where
          alone : (k : ℕ) (b : Bool) → Stays T U k → AllStay T U (cond b (k ∷ []) [])
          alone k true h = (h, tt)
          alone k false h = tt

      chains-same : (ss : List TypedPatternStepTree) (ms alive : List ℕ) → PatternStepsTyped ss → NamesKept ss →
          Same T U touched L M no_nodes (chains T L n ss ms alive) (chains U M n ss ms alive)
      chains-same [] ms alive typed names = same-done T U touched L M no_nodes (mem n alive) tt
      chains-same (s ∷ ss) ms alive typed names =
          let at = standing-same s ss ms typed names in
          let nodes : List ℕ = standing T s ss ms n in
          let on : ℕ → Bool = λ k. reaches T ss (k ∷ []) n in
          let led : ℕ → Bool = λ k. list_any (λ m. leads T s m k) alive in
          let led_after : ℕ → Bool = λ k. list_any (λ m. leads U s m k) alive in
          subst (λ others. Same T U touched L M no_nodes (chains T L n (s ∷ ss) ms alive)
          (bind (survivors U M s n others) (λ ks. chains U M n ss others (filter led_after ks)))) at.0
          (same-bind-answered T U touched L M (λ ks. ks) no_nodes (survivors T L s n nodes) (survivors U M s n nodes)
          (λ ks. chains T L n ss nodes (filter led ks)) (λ ks. chains U M n ss nodes (filter led_after ks)) (survivors-same s nodes at.1)
          (λ ks is all. subst (λ left. Same T U touched L M no_nodes (chains T L n ss nodes (filter led ks)) (chains U M n ss nodes left))
          (filter-alike T U led led_after ks
          (λ k here h. led-same s alive k typed.0 h (led-kept s ss typed.2 names k
          (kept-passes on k (led_to T s ms) (surviving-among (λ _ j. survives T L s n j) 1 nodes ks is k here)))) all)
          (chains-same ss nodes (filter led ks) typed.2 (later-kept s ss names))))

      paths-same : (ps : List TypedPathTree) → PathsTyped ps → AllKept T U touched L M (pattern_names T n ps) →
          Same T U touched L M no_nodes (some_path T L n ps) (some_path U M n ps)
      paths-same [] typed names = same-done T U touched L M no_nodes false tt
      paths-same (p ∷ ps) typed names =
          same-bind T U touched L M no_nodes no_nodes (path_matches T L n p) (path_matches U M n p)
          (λ b. bind (some_path T L n ps) (λ c. done (b || c))) (λ b. bind (some_path U M n ps) (λ c. done (b || c)))
          (subst (λ ms. Same T U touched L M no_nodes (path_matches T L n p) (chains U M n p.steps ms ms)) (starts-same p.from_root)
          (chains-same p.steps (starts T p.from_root n) (starts T p.from_root n) typed.0
          (kept_front T U touched L M (step_names T n p.steps) (pattern_names T n ps) names)))
          (λ b _. same-made T U touched L M no_nodes no_nodes (some_path T L n ps) (some_path U M n ps) (λ c. b || c) (λ c. b || c)
          (paths-same ps typed.1 (kept_back T U touched L M (step_names T n p.steps) (pattern_names T n ps) names)) (λ c _. (refl, tt)))

    -- the names that are looked at are of the same nodes, and of those of the same kinds
    over-same : (ss : List TypedPatternStepTree) →
        (ancestor_over T ss n ≡ ancestor_over U ss n) × ((m : ℕ) → ancestor_over T ss n ≡ Some m → Stays T U m)
    over-same [] = (refl, λ m e. let same : n ≡ m = cc in subst (Stays T U) same here)
    over-same (s ∷ ss) =
        let r = over-same ss in
        let up = by (ancestor_over T ss n) r.1 in
        (up.0 ∙ ap (option_and_then (parent_of U)) r.0, up.1)
      where
        by : (o : Option ℕ) → ((m : ℕ) → o ≡ Some m → Stays T U m) →
            (option_and_then (parent_of T) o ≡ option_and_then (parent_of U) o) × ((m : ℕ) → option_and_then (parent_of T) o ≡ Some m → Stays T U m)
        by None h = (refl, λ m e. absurd (cc))
        by (Some q) h = (changed.agree.parent q (h q refl), λ m e. parent-stays q m (h q refl) e)

    places-same : (b : Bool) (o : Option ℕ) → ((m : ℕ) → o ≡ Some m → Stays T U m) →
        (places_from T b o ≡ places_from U b o) × AllStay T U (places_from T b o)
    places-same b None h = (refl, tt)
    places-same true (Some m) h = let up = same-ancestors T U touched L M changed m (h m refl) in (ap (λ l. m ∷ l) up.0, (h m refl, up.1))
    places-same false (Some m) h = (refl, (h m refl, tt))

    standing_places-same : (ss : List TypedPatternStepTree) → (standing_places T ss n ≡ standing_places U ss n) × AllStay T U (standing_places T ss n)
    standing_places-same ss =
        let over = over-same ss in
        let at = places-same (some_anywhere ss) (ancestor_over T ss n) over.1 in
        (at.0 ∙ ap (places_from U (some_anywhere ss)) over.0, at.1)

    names_on-same : (axis : Axis) (ns : List ℕ) → AllStay T U ns → names_on T axis ns ≡ names_on U axis ns
    names_on-same axis ns stay =
        ap (map Name) (filter-alike T U (λ k. is_principal axis (kind_of T k)) (λ k. is_principal axis (kind_of U k)) ns
        (λ k _ h. ap (is_principal axis) (changed.agree.kind k h)) stay)

    step_names-same : (ss : List TypedPatternStepTree) → step_names T n ss ≡ step_names U n ss
    step_names-same [] = refl
    step_names-same (s ∷ ss) =
        let at = standing_places-same ss in
        ap₂ (λ (x y : List Read). x ++ y) (step_names-same ss)
        (ap (λ cs. cond (is_by_name s.test) (map cell cs) []) (names_on-same s.axis (standing_places T ss n) at.1 ∙ ap (names_on U s.axis) at.0))

    pattern_names-same : (ps : List TypedPathTree) → pattern_names T n ps ≡ pattern_names U n ps
    pattern_names-same [] = refl
    pattern_names-same (p ∷ ps) = ap₂ (λ (x y : List Read). x ++ y) (step_names-same p.steps) (pattern_names-same ps)

pub patterns_are_local : StepsAreLocal → PredicatesAreLocal → PatternsAreLocal
patterns_are_local steps predicates T U touched L M ps n changed typed here =
    let reads = pattern_names T n ps in
    let before = some_path T L n ps in
    let after = some_path U M n ps in
    (same-visit T U touched L M no_nodes (all_reading reads before) (all_reading (pattern_names U n ps) after)
    (same-equal T U touched L M no_nodes (all_reading reads before) (all_reading reads after) _
    (ap (λ names. all_reading names after) (pattern_names-same T U touched L M changed n here ps))
    (same-all_reading T U touched L M no_nodes reads before after
    (λ names. paths-same T U touched L M changed n here steps predicates ps typed names)))).go
