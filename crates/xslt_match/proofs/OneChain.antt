-- The chain of a path pattern of which each step but the first leads from a parent, and the tests of its nodes.
use Rattle.std.proofs.Common.{◌≡◌, ℕ, Bool, true, false, not, cond, ◌||◌, ◌&&◌, List, [], ◌∷◌, ◌++◌, length, eqb, Option, None, Some, refl, sym, ap, ◌∙◌, subst, true≢false, arith, eqb-true, eq-eqb, append-nil, map}
use Rattle.std.proofs.Math.Bool.{or_comm}
use Rattle.std.specs.Prelude.{filter, is_some, option_and_then, option_to_list, if◌then◌else◌}
use Rattle.std.specs.List.{list_any, filter_map, cons_option}
use Rattle.doc_tree.specs.declared.axes.Axis.TheVariants.{AncestorOrSelf}
use Rattle.doc_tree.specs.Lists.{mem}
use Rattle.doc_tree.specs.Table.{Table, parent_of, is_live}
use Rattle.doc_tree.specs.Walks.{ancestors, above, order}
use Rattle.doc_tree.specs.Laws.{WellFormed, Ordered, HasWaysUp}
use Rattle.doc_tree.proofs.ListLemmas.{mem-In, mem-head}
use Rattle.doc_axes.specs.Axes.{is_one, on_axis}
use Rattle.doc_axes.proofs.Merging.{kept}
use Rattle.doc_axes.proofs.SubLists.{sub-one, filter-sub, filter-none}
use Rattle.xp_typed_tree.specs.declared.pattern.TypedPath.{TypedPath}
use Rattle.xp_typed_tree.specs.declared.pattern.TypedPatternStep.{TypedPatternStep}
use Rattle.xp_typed_tree.specs.TypedTree.{TypedPatternStepTree}
use Rattle.xp_typed_tree.specs.TypedView.{path_seen, pattern_step_seen}
use Rattle.xp_typed_tree.specs.WellTyped.{is_pattern_axis, PatternStepsTyped}
use Rattle.xp_outcome.specs.Evaluation.{Evaluation, done, bind, gather}
use Rattle.xp_outcome.proofs.Outcomes.{bind-done, bind_assoc, bind_alike}
use Rattle.xp_values.specs.declared.values.EvalFault.{EvalFault}
use Rattle.xp_meaning.specs.Evaluation.{Lets}
use Rattle.xslt_ways.specs.Ways.{is_anywhere, looks_at, looks_there}
use Rattle.xslt_ways.proofs.WayLemmas.{above_above}
use Rattle.xslt_match.specs.Matching.{leads, reaches, starts, standing, survives, survivors, chains, path_matches}
use Rattle.xslt_match.specs.inner.Leading.{fits, holder}
use Rattle.xslt_match.specs.inner.OneChain.{all_from_parents, leads_there, origin, survives_there, tests}
use Rattle.xslt_match.specs.Names.{ancestor_over}
use Rattle.xslt_match.proofs.Filters.{any-none, eqb-turned, or-false}
use Rattle.xslt_match.proofs.StepsAlong.{holder_above, leads_is, led_is, reach_above, standing_is, step_back}
use Rattle.xslt_match.proofs.Chaining.{chains_none, chains_nowhere}

parts : (a b : Bool) → (not a && b) ≡ true → (a ≡ false) × (b ≡ true)
parts true b h = absurd (true≢false (sym h))
parts false b h = (refl, h)

is-one : (o : Option ℕ) (m : ℕ) → o ≡ Some m → is_one o m ≡ true
is-one o m e = rw e (eq-eqb m m refl)

any-there : (p : ℕ → Bool) (x : ℕ) (xs : List ℕ) → mem x xs ≡ true → p x ≡ true → list_any p xs ≡ true
any-there p x [] h e = absurd (true≢false (sym h))
any-there p x (y ∷ ys) h e = by (eqb x y) refl h (λ k. any-there p x ys k e)
  where
    or-true : (a : Bool) → (a || true) ≡ true
    or-true true = refl
    or-true false = refl

    by : (b : Bool) → eqb x y ≡ b → (b || mem x ys) ≡ true → (mem x ys ≡ true → list_any p ys ≡ true) → (p y || list_any p ys) ≡ true
    by true same k more = ap (λ b. b || list_any p ys) (ap p (sym (eqb-true x y same)) ∙ e)
    by false other k more = ap (λ b. p y || b) (more k) ∙ or-true (p y)

module _ (T : Table) where
  pub holder_parent : (s : TypedPatternStepTree) (k p : ℕ) → holder T s k ≡ Some p → parent_of T k ≡ Some p
  holder_parent s k p h = by (fits T s k) h
    where
      by : (f : Bool) → cond f (parent_of T k) None ≡ Some p → parent_of T k ≡ Some p
      by true e = e
      by false e = absurd (cc)

  -- the nodes of the chain are ancestors, one above another
  pub over : (ss : List TypedPatternStepTree) (n k : ℕ) → origin T ss n ≡ Some k → ancestor_over T ss n ≡ Some k
  over [] n k e = e
  over (s ∷ ss) n k e = by (origin T ss n) refl e (λ j h. over ss n j h)
    where
      by : (o : Option ℕ) → origin T ss n ≡ o → option_and_then (holder T s) o ≡ Some k → ((j : ℕ) → origin T ss n ≡ Some j → ancestor_over T ss n ≡ Some j) →
          option_and_then (parent_of T) (ancestor_over T ss n) ≡ Some k
      by None eo h more = absurd (cc)
      by (Some j) eo h more = ap (option_and_then (parent_of T)) (more j eo) ∙ holder_parent s j k h

module _ (T : Table) (form : WellFormed T) (ord : Ordered T) (up : HasWaysUp T) (n : ℕ) (live : is_live T n ≡ true) where
  origin_live : (ss : List TypedPatternStepTree) (p : ℕ) → origin T ss n ≡ Some p → is_live T p ≡ true
  origin_live [] p e = let same : n ≡ p = cc in subst (λ q. is_live T q ≡ true) same live
  origin_live (s ∷ ss) p e = by (origin T ss n) e
    where
      by : (o : Option ℕ) → option_and_then (holder T s) o ≡ Some p → is_live T p ≡ true
      by None h = absurd (cc)
      by (Some k) h = up.parent_live k p (holder_parent T s k p h)

  listed : (o : Option ℕ) (r : ℕ → Bool) → ((p : ℕ) → o ≡ Some p → is_live T p ≡ true) → ((m : ℕ) → r m ≡ is_one o m) → filter r (order T) ≡ option_to_list o
  listed None r lives is = filter-none r (order T) (λ m i. is m)
  listed (Some p) r lives is =
      filter-sub r (sub-one p (order T) (mem-In p (order T) (sym (ord.live_in_order p) ∙ lives p refl))) ord.once (λ m i. is m ∙ sym (or-false (eqb m p)))

  -- such steps lead on from one node alone
  reach_one : (ss : List TypedPatternStepTree) → PatternStepsTyped ss → all_from_parents ss ≡ true → (m : ℕ) → reaches T ss (m ∷ []) n ≡ is_one (origin T ss n) m
  reach_one [] typed all m = or-false (eqb n m) ∙ eqb-turned n m
  reach_one (s ∷ ss) typed all m =
      let h = parts (is_anywhere s.join) (all_from_parents ss) all in
      let nodes : filter (λ k. reaches T ss (k ∷ []) n) (order T) ≡ option_to_list (origin T ss n) =
      listed (origin T ss n) (λ k. reaches T ss (k ∷ []) n) (origin_live ss) (reach_one ss typed.2 h.1) in
      sym (step_back T form ord up s ss n m (option_to_list (origin T ss n)) (filter_map (holder T s) (option_to_list (origin T ss n))) typed.0 (sym nodes) refl)
      ∙ looks h.0 (origin T ss n)
    where
      held : is_anywhere s.join ≡ false → (o : Option ℕ) → list_any (looks_at T s.join m) (cons_option o []) ≡ is_one o m
      held single None = refl
      held single (Some p) = or-false (looks_at T s.join m p) ∙ ap (λ j. cond j (mem m (above T p)) (eqb m p)) single

      looks : is_anywhere s.join ≡ false → (o : Option ℕ) → list_any (looks_at T s.join m) (filter_map (holder T s) (option_to_list o)) ≡ is_one (option_and_then (holder T s) o) m
      looks single None = refl
      looks single (Some k) = held single (holder T s k)

  nodes_one : (ss : List TypedPatternStepTree) → PatternStepsTyped ss → all_from_parents ss ≡ true →
      filter (λ k. reaches T ss (k ∷ []) n) (order T) ≡ option_to_list (origin T ss n)
  nodes_one ss typed all = listed (origin T ss n) (λ k. reaches T ss (k ∷ []) n) (origin_live ss) (reach_one ss typed all)

  standing_one : (s : TypedPatternStepTree) (ss : List TypedPatternStepTree) (ms : List ℕ) → PatternStepsTyped ss → all_from_parents ss ≡ true →
      standing T s ss ms n ≡ filter (λ k. list_any (λ m. leads T s m k) ms) (option_to_list (origin T ss n))
  standing_one s ss ms typed all = sym (standing_is T form ord up s ss ms (option_to_list (origin T ss n)) n (sym (nodes_one ss typed all)))

  -- the node from which they lead on stands above n
  origin_above : (ss : List TypedPatternStepTree) (k : ℕ) → PatternStepsTyped ss → all_from_parents ss ≡ true → origin T ss n ≡ Some k → mem k (above T n) ≡ true
  origin_above ss k typed all e = reach_above T form ord up ss k n typed (reach_one ss typed all k ∙ is-one (origin T ss n) k e)

  in_start : (k : ℕ) → is_live T k ≡ true → mem k (above T n) ≡ true → mem k (starts T false n) ≡ true
  in_start k lives h =
      kept (on_axis T AncestorOrSelf n) k (order T) (mem-In k (order T) (sym (ord.live_in_order k) ∙ lives)) ∙ (or_comm (mem k (ancestors T n)) (eqb k n) ∙ h)

  start_there : true ≡ mem n (starts T false n)
  start_there = sym (in_start n live (mem-head n (ancestors T n)))

  pub start_when : (from_root : Bool) → from_root ≡ false → not from_root ≡ mem n (starts T from_root n)
  start_when true h = absurd (true≢false h)
  start_when false h = start_there

  -- from the way to n a step leads wherever it has a holder
  led_anywhere : (s : TypedPatternStepTree) (k p : ℕ) → is_pattern_axis s.axis ≡ true → mem k (above T n) ≡ true → holder T s k ≡ Some p →
      true ≡ list_any (λ m. leads T s m k) (starts T false n)
  led_anywhere s k p axis h e =
      sym (any-there (λ m. leads T s m k) p (starts T false n)
      (in_start p (up.parent_live k p (holder_parent T s k p e)) (above_above T form ord up (length (ancestors T n)) p k n (omega arith) (holder_above T form ord up s k p e) h))
      (leads_is T form ord up s p k axis ∙ (ap (looks_there T (is_anywhere s.join) p) e ∙ itself (is_anywhere s.join))))
    where
      itself : (j : Bool) → looks_there T j p (Some p) ≡ true
      itself true = mem-head p (ancestors T p)
      itself false = eq-eqb p p refl

  led_nowhere : (s : TypedPatternStepTree) (k : ℕ) (ms : List ℕ) → is_pattern_axis s.axis ≡ true → holder T s k ≡ None → false ≡ list_any (λ m. leads T s m k) ms
  led_nowhere s k ms axis e =
      sym (led_is T form ord up s ms k axis ∙ (ap (λ o. list_any (λ m. looks_there T (is_anywhere s.join) m o) ms) e
      ∙ any-none (λ m. looks_there T (is_anywhere s.join) m None) ms (λ m. refl)))

  led_by_holder : (s : TypedPatternStepTree) (k : ℕ) → is_pattern_axis s.axis ≡ true → mem k (above T n) ≡ true → (o : Option ℕ) → o ≡ holder T s k →
      is_some o ≡ list_any (λ m. leads T s m k) (starts T false n)
  led_by_holder s k axis h None e = led_nowhere s k (starts T false n) axis (sym e)
  led_by_holder s k axis h (Some p) e = led_anywhere s k p axis h (sym e)

  pub chain_by_holder : (s : TypedPatternStepTree) (ss : List TypedPatternStepTree) (k : ℕ) (o : Option ℕ) (from_root : Bool) → PatternStepsTyped (s ∷ ss) → all_from_parents ss ≡ true →
      origin T ss n ≡ Some k → o ≡ holder T s k → from_root ≡ false → is_some o ≡ leads_there T s (starts T from_root n) (origin T ss n)
  chain_by_holder s ss k o from_root typed all e held away =
      led_by_holder s k typed.0 (origin_above ss k typed.2 all e) o held
      ∙ sym (ap (leads_there T s (starts T from_root n)) e ∙ ap (λ r. leads_there T s (starts T r n) (Some k)) away)

  module _ (L : Lets) where
    one_survivor : {B : Type 0} (s : TypedPatternStepTree) (k : ℕ) (next : List ℕ → Evaluation EvalFault B) →
        bind (survivors T L s n (k ∷ [])) next ≡ bind (survives T L s n k) (λ v. next (if v then k ∷ [] else []))
    one_survivor s k next =
        let none : Evaluation EvalFault (List ℕ) = gather (λ _ k. survives T L s n k) (λ _ k b. if b then k ∷ [] else []) 2 [] in
        bind_assoc (survives T L s n k) (λ v. bind none (λ rest. done ((if v then k ∷ [] else []) ++ rest))) next
        ∙ bind_alike (survives T L s n k) _ _ (λ v.
        ap (λ m. bind m next) (bind-done [] (λ rest. done ((if v then k ∷ [] else []) ++ rest)))
        ∙ (bind-done ((if v then k ∷ [] else []) ++ []) next ∙ ap next (append-nil (if v then k ∷ [] else []))))

    -- one step of the chain: its node is tested, and a chain of survivors leads to it where one led before
    chain_step : (s : TypedPatternStepTree) (ss : List TypedPatternStepTree) (ms alive : List ℕ) (k : ℕ) (b : Bool) → PatternStepsTyped ss → all_from_parents ss ≡ true →
        origin T ss n ≡ Some k → list_any (λ m. leads T s m k) ms ≡ true → list_any (λ m. leads T s m k) alive ≡ b →
        chains T L n (s ∷ ss) ms alive ≡ bind (survives T L s n k) (λ v. chains T L n ss (k ∷ []) (cond (b && v) (k ∷ []) []))
    chain_step s ss ms alive k b typed all e led passed =
        let q : ℕ → Bool = λ j. list_any (λ m. leads T s m j) ms in
        let stands : standing T s ss ms n ≡ k ∷ [] =
        standing_one s ss ms typed all ∙ (ap (λ o. filter q (option_to_list o)) e ∙ ap (λ c. cond c (k ∷ []) []) led) in
        ap (λ ks. bind (survivors T L s n ks) (λ left. chains T L n ss ks (filter (λ j. list_any (λ m. leads T s m j) alive) left))) stands
        ∙ (one_survivor s k (λ left. chains T L n ss (k ∷ []) (filter (λ j. list_any (λ m. leads T s m j) alive) left))
        ∙ bind_alike (survives T L s n k) _ _ (λ v. ap (chains T L n ss (k ∷ [])) (left b v passed)))
      where
        left : (b v : Bool) → list_any (λ m. leads T s m k) alive ≡ b → filter (λ j. list_any (λ m. leads T s m j) alive) (cond v (k ∷ []) []) ≡ cond (b && v) (k ∷ []) []
        left true true h = ap (λ c. cond c (k ∷ []) []) h
        left false true h = ap (λ c. cond c (k ∷ []) []) h
        left true false h = refl
        left false false h = refl

    -- where there is no chain, nothing is tested
    chain_refused : (s : TypedPatternStepTree) (ss : List TypedPatternStepTree) (ms alive : List ℕ) → PatternStepsTyped ss → all_from_parents ss ≡ true →
        leads_there T s ms (origin T ss n) ≡ false → chains T L n (s ∷ ss) ms alive ≡ done false
    chain_refused s ss ms alive typed all refused =
        chains_none T n L s ss ms alive (standing_one s ss ms typed all ∙ nobody (origin T ss n) refused) ∙ chains_nowhere T n L ss
      where
        nobody : (o : Option ℕ) → leads_there T s ms o ≡ false → filter (λ k. list_any (λ m. leads T s m k) ms) (option_to_list o) ≡ []
        nobody None h = refl
        nobody (Some k) h = ap (λ c. cond c (k ∷ []) []) h

    -- the later steps of the chain
    tests_rest : (ss : List TypedPatternStepTree) → PatternStepsTyped ss → all_from_parents ss ≡ true → (j : ℕ) (b : Bool) → origin T ss n ≡ Some j →
        chains T L n ss (j ∷ []) (cond b (j ∷ []) []) ≡ tests T L n ss b
    tests_rest [] typed all j b e = let same : n ≡ j = cc in ap done (ends b same)
      where
        ends : (b : Bool) → n ≡ j → mem n (cond b (j ∷ []) []) ≡ b
        ends true same = ap (λ c. c || false) (eq-eqb n j same)
        ends false same = refl
    tests_rest (s ∷ ss) typed all j b e =
        let h = parts (is_anywhere s.join) (all_from_parents ss) all in
        by h.0 h.1 (origin T ss n) refl e (λ k c eo. tests_rest ss typed.2 h.1 k c eo)
      where
        passed : (k : ℕ) → leads T s j k ≡ true → (b : Bool) → list_any (λ m. leads T s m k) (cond b (j ∷ []) []) ≡ b
        passed k from true = ap (λ c. c || false) from
        passed k from false = refl

        by : is_anywhere s.join ≡ false → all_from_parents ss ≡ true → (o : Option ℕ) → origin T ss n ≡ o → option_and_then (holder T s) o ≡ Some j →
            ((k : ℕ) (c : Bool) → origin T ss n ≡ Some k → chains T L n ss (k ∷ []) (cond c (k ∷ []) []) ≡ tests T L n ss c) →
            chains T L n (s ∷ ss) (j ∷ []) (cond b (j ∷ []) []) ≡ bind (survives_there T L s n (ancestor_over T ss n)) (λ v. tests T L n ss (b && v))
        by single later None eo held more = absurd (cc)
        by single later (Some k) eo held more =
            let from : leads T s j k ≡ true =
            leads_is T form ord up s j k typed.0 ∙ (ap (λ c. looks_there T c j (holder T s k)) single ∙ (ap (looks_there T false j) held ∙ eq-eqb j j refl)) in
            chain_step s ss (j ∷ []) (cond b (j ∷ []) []) k b typed.2 later eo (ap (λ c. c || false) from) (passed k from b)
            ∙ (bind_alike (survives T L s n k) _ _ (λ v. more k (b && v) eo)
            ∙ ap (λ o. bind (survives_there T L s n o) (λ v. tests T L n ss (b && v))) (sym (over T ss n k eo)))

    -- the whole chain
    chain_tested : (s : TypedPatternStepTree) (ss : List TypedPatternStepTree) (ms : List ℕ) → PatternStepsTyped ss → all_from_parents ss ≡ true →
        leads_there T s ms (origin T ss n) ≡ true → chains T L n (s ∷ ss) ms ms ≡ tests T L n (s ∷ ss) true
    chain_tested s ss ms typed all led = by (origin T ss n) refl led
      where
        by : (o : Option ℕ) → origin T ss n ≡ o → leads_there T s ms o ≡ true → chains T L n (s ∷ ss) ms ms ≡ tests T L n (s ∷ ss) true
        by None eo led = absurd (true≢false (sym led))
        by (Some k) eo led =
            chain_step s ss ms ms k true typed all eo led led
            ∙ (bind_alike (survives T L s n k) _ _ (λ v. tests_rest ss typed all k (true && v) eo)
            ∙ ap (λ o. bind (survives_there T L s n o) (λ v. tests T L n ss (true && v))) (sym (over T ss n k eo)))

    pub path_tested : (path : TypedPath) (step : TypedPatternStep) (rest : List TypedPatternStep) → path.steps.items ≡ step ∷ rest → PatternStepsTyped (path_seen path).steps →
        all_from_parents (map pattern_step_seen rest) ≡ true →
        leads_there T (pattern_step_seen step) (starts T path.from_root n) (origin T (map pattern_step_seen rest) n) ≡ true →
        path_matches T L n (path_seen path) ≡ tests T L n (path_seen path).steps true
    path_tested path step rest is typed all led =
        let steps : map pattern_step_seen path.steps.items ≡ pattern_step_seen step ∷ map pattern_step_seen rest = ap (map pattern_step_seen) is in
        let now : PatternStepsTyped (pattern_step_seen step ∷ map pattern_step_seen rest) = subst PatternStepsTyped steps typed in
        ap (λ ss. chains T L n ss (starts T path.from_root n) (starts T path.from_root n)) steps
        ∙ (chain_tested (pattern_step_seen step) (map pattern_step_seen rest) (starts T path.from_root n) now.2 all led
        ∙ sym (ap (λ ss. tests T L n ss true) steps))

    pub path_refused : (path : TypedPath) (step : TypedPatternStep) (rest : List TypedPatternStep) → path.steps.items ≡ step ∷ rest → PatternStepsTyped (path_seen path).steps →
        all_from_parents (map pattern_step_seen rest) ≡ true →
        leads_there T (pattern_step_seen step) (starts T path.from_root n) (origin T (map pattern_step_seen rest) n) ≡ false →
        path_matches T L n (path_seen path) ≡ done false
    path_refused path step rest is typed all refused =
        let steps : map pattern_step_seen path.steps.items ≡ pattern_step_seen step ∷ map pattern_step_seen rest = ap (map pattern_step_seen) is in
        let now : PatternStepsTyped (pattern_step_seen step ∷ map pattern_step_seen rest) = subst PatternStepsTyped steps typed in
        ap (λ ss. chains T L n ss (starts T path.from_root n) (starts T path.from_root n)) steps
        ∙ chain_refused (pattern_step_seen step) (map pattern_step_seen rest) (starts T path.from_root n) (starts T path.from_root n) now.2 all refused

-- a path with no step
pub path_empty : (T : Table) (L : Lets) (n : ℕ) (path : TypedPath) → path.steps.items ≡ [] → path_matches T L n (path_seen path) ≡ done (mem n (starts T path.from_root n))
path_empty T L n path none = ap (λ ss. chains T L n (map pattern_step_seen ss) (starts T path.from_root n) (starts T path.from_root n)) none

-- the next step, by the node that the program has
pub tests_next : (T : Table) (L : Lets) (n : ℕ) (later : List TypedPatternStep) (step : TypedPatternStep) (rest : List TypedPatternStep) (at : Option ℕ) (b : Bool) →
    later ≡ step ∷ rest → at ≡ ancestor_over T (map pattern_step_seen rest) n →
    tests T L n (map pattern_step_seen later) b ≡ bind (survives_there T L (pattern_step_seen step) n at) (λ v. tests T L n (map pattern_step_seen rest) (b && v))
tests_next T L n later step rest at b is there =
    ap (λ ss. tests T L n (map pattern_step_seen ss) b) is
    ∙ ap (λ o. bind (survives_there T L (pattern_step_seen step) n o) (λ v. tests T L n (map pattern_step_seen rest) (b && v))) (sym there)
