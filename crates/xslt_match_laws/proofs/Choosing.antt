-- Which nodes a step selects at a node, and which survive its test.
use Rattle.std.proofs.Common.{◌≡◌, ℕ, ◌+◌, Bool, true, false, cond, ◌||◌, ◌&&◌, List, [], ◌∷◌, ◌++◌, length, Some, Ok, eqb, refl, sym, ◌∙◌, ap, true≢false, eqb-true}
use Rattle.std.specs.Prelude.{filter, if◌then◌else◌}
use Rattle.doc_tree.specs.declared.axes.Axis.{Axis}
use Rattle.doc_tree.specs.declared.axes.Axis.TheVariants as axes
use Rattle.doc_tree.specs.declared.axes.NodeTest.{NodeTest}
use Rattle.doc_tree.specs.Laws.{WellFormed}
use Rattle.doc_tree.specs.Lists.{mem}
use Rattle.doc_tree.specs.Table.{Table, parent_of}
use Rattle.doc_tree.specs.Walks.{order}
use Rattle.doc_axes.specs.Axes.{on_axis, is_reverse, axis_order, axis_nodes, backwards}
use Rattle.doc_axes.specs.NodeTests.{passes}
use Rattle.doc_axes.proofs.SubLists.{mem-same, occurs-backwards}
use Rattle.xp_typed_tree.specs.TypedTree.{TypedTrees, TypedPatternStepTree, no_typed, typed}
use Rattle.xp_typed_tree.specs.WellTyped.{type_of, is_pattern_axis}
use Rattle.xp_outcome.specs.Evaluation.{Evaluation, done, bind, visit, gather}
use Rattle.xp_values.specs.declared.values.Value.{Value}
use Rattle.xp_values.specs.declared.values.EvalFault.{EvalFault}
use Rattle.xp_values.specs.Conversions.{to_truth}
use Rattle.xp_meaning.specs.Paths.{chosen, filtered, kept, placed, candidates, step_at}
use Rattle.xp_meaning.specs.Evaluation.{Lets, meaning, meanings, all_true}
use Rattle.xp_meaning.proofs.Answers.{answer_then, answer_visit}
use Rattle.xp_meaning.proofs.Choices.{came_before, same_ok, filtered-sub}
use Rattle.xp_meaning.proofs.Places.{candidates-answer}
use Rattle.xslt_match.specs.Matching.{step_of, is_candidate, is_left, survives}
use Rattle.xslt_match.specs.Positional.{asks_position, is_number_type, is_positional, some_positional}
use Rattle.xslt_match.proofs.Filters.{and-false}
use Rattle.xslt_match_laws.specs.inner.Fitted.{AllFitted}
use Rattle.xslt_match_laws.proofs.Contexts.{none_of, meaning_same}
use Rattle.xslt_match_laws.proofs.Numbers.{Plain, plain_holds, meaning_plain}
use Rattle.xslt_match_laws.proofs.Gathering.{answered-done, mem-filter, both, parts, sub-mem}

-- a value at a node
record Valued (at : ℕ → Evaluation EvalFault Value) (k : ℕ) : Type 0 where
  pub value : Value
  pub is : (at k).answer ≡ Ok value

-- a predicate whose value at a node is the same at each position and is no number
module _ (act : ℕ → ℕ → Evaluation EvalFault Value) (at : ℕ → Evaluation EvalFault Value) (same : (i k : ℕ) → (act i k).answer ≡ (at k).answer)
    (plain : (k : ℕ) (v : Value) → (at k).answer ≡ Ok v → Plain v) where
  chosen-is : (i x k : ℕ) (w v : Value) (ns rest : List ℕ) → (at x).answer ≡ Ok w → (at k).answer ≡ Ok v → mem k rest ≡ (mem k ns && to_truth v) →
      (d t : Bool) → eqb k x ≡ d → to_truth w ≡ t → mem k (cond t (x ∷ []) [] ++ rest) ≡ ((d || mem k ns) && to_truth v)
  chosen-is i x k w v ns rest at_x at_k more true true e h =
      ap (λ b. b || mem k rest) e ∙ sym (ap to_truth (same_ok {F = EvalFault} v w (sym at_k ∙ ap (λ q. (at q).answer) (eqb-true k x e) ∙ at_x)) ∙ h)
  chosen-is i x k w v ns rest at_x at_k more true false e h =
      let no : to_truth v ≡ false = ap to_truth (same_ok {F = EvalFault} v w (sym at_k ∙ ap (λ q. (at q).answer) (eqb-true k x e) ∙ at_x)) ∙ h in
      more ∙ ap (λ b. mem k ns && b) no ∙ and-false (mem k ns) ∙ sym no
  chosen-is i x k w v ns rest at_x at_k more false true e h = ap (λ b. b || mem k rest) e ∙ more
  chosen-is i x k w v ns rest at_x at_k more false false e h = more

  gathered-member : (i : ℕ) (ns ms : List ℕ) → (gather act chosen i ns).answer ≡ Ok ms → (k : ℕ) (v : Value) → (at k).answer ≡ Ok v →
      mem k ms ≡ (mem k ns && to_truth v)
  gathered-member i [] ms is k v e = ap (mem k) (sym (answered-done [] ms is))
  gathered-member i (x ∷ ns) ms is k v e =
      let one = came_before (act i x) (λ w. bind (gather act chosen (i + 1) ns) (λ rest. done (chosen i x w ++ rest))) ms is in
      let more = came_before (gather act chosen (i + 1) ns) (λ rest. done (chosen i x one.first ++ rest)) ms one.then in
      let at_x : (at x).answer ≡ Ok one.first = sym (same i x) ∙ one.is in
      ap (mem k) (sym (answered-done (chosen i x one.first ++ more.first) ms more.then))
      ∙ ap (λ b. mem k (cond b (x ∷ []) [] ++ more.first)) (plain_holds one.first i (plain x one.first at_x))
      ∙ chosen-is i x k one.first v ns more.first at_x e (gathered-member (i + 1) ns more.first more.is k v e) (eqb k x) (to_truth one.first) refl refl

  gathered-tested : (i : ℕ) (ns ms : List ℕ) → (gather act chosen i ns).answer ≡ Ok ms → (k : ℕ) → mem k ns ≡ true → Valued at k
  gathered-tested i [] ms is k h = absurd (true≢false (sym h))
  gathered-tested i (x ∷ ns) ms is k h =
      let one = came_before (act i x) (λ w. bind (gather act chosen (i + 1) ns) (λ rest. done (chosen i x w ++ rest))) ms is in
      let more = came_before (gather act chosen (i + 1) ns) (λ rest. done (chosen i x one.first ++ rest)) ms one.then in
      by one.first (sym (same i x) ∙ one.is) (λ j. gathered-tested (i + 1) ns more.first more.is k j) (eqb k x) refl h
    where
      by : (w : Value) → (at x).answer ≡ Ok w → (mem k ns ≡ true → Valued at k) → (d : Bool) → eqb k x ≡ d → (d || mem k ns) ≡ true → Valued at k
      by w e go true same_k j = record { value = w; is = ap (λ q. (at q).answer) (eqb-true k x same_k) ∙ e }
      by w e go false same_k j = go j

module _ (T : Table) (L : Lets) (n : ℕ) where
  -- predicates that aren't positional leave a node where they are all true at the node alone
  pub tested-alone : (ts : TypedTrees) → some_positional ts ≡ false → AllFitted L ts → (ns js : List ℕ) → (filtered (meanings T L ts) n ns).answer ≡ Ok js →
      (k : ℕ) (b : Bool) → mem k ns ≡ true → (all_true (meanings T L ts) (placed n 1 1 k)).answer ≡ Ok b → mem k js ≡ b
  tested-alone no_typed free fits ns js is k b among tested = ap (mem k) (sym (answered-done ns js is)) ∙ among ∙ answered-done true b tested
  tested-alone (typed t ts) free fits ns js is k b among tested =
      let q = none_of (is_positional t) (some_positional ts) free in
      let r = none_of (is_number_type (type_of t)) (asks_position t) q.0 in
      let one = came_before (kept (meaning T L t) n ns) (λ ms. filtered (meanings T L ts) n ms) js is in
      let act : ℕ → ℕ → Evaluation EvalFault Value = λ position m. meaning T L t (placed n (length ns) position m) in
      let at : ℕ → Evaluation EvalFault Value = λ m. meaning T L t (placed n 1 1 m) in
      let same : (i m : ℕ) → (act i m).answer ≡ (at m).answer = λ i m. ap (λ o. o.answer) (meaning_same T L n m (length ns) i 1 1 t r.1) in
      let plain : (m : ℕ) (v : Value) → (at m).answer ≡ Ok v → Plain v = λ m v e. meaning_plain T L t (placed n 1 1 m) v r.0 fits.0 e in
      let v = gathered-tested act at same plain 1 ns one.first one.is k among in
      let left : mem k one.first ≡ to_truth v.value =
      gathered-member act at same plain 1 ns one.first one.is k v.value v.is ∙ ap (λ c. c && to_truth v.value) among in
      by one.first v.value left one.then
      (sym (answer_then (at k) (λ w. if to_truth w then all_true (meanings T L ts) (placed n 1 1 k) else done false) v.value v.is) ∙ tested)
      (λ h rest. tested-alone ts q.1 fits.1 one.first js one.then k b h rest) (to_truth v.value) refl
    where
      by : (ms : List ℕ) (v : Value) → mem k ms ≡ to_truth v → (filtered (meanings T L ts) n ms).answer ≡ Ok js →
          (cond (to_truth v) (all_true (meanings T L ts) (placed n 1 1 k)) (done false)).answer ≡ Ok b →
          (mem k ms ≡ true → (all_true (meanings T L ts) (placed n 1 1 k)).answer ≡ Ok b → mem k js ≡ b) → (t : Bool) → to_truth v ≡ t → mem k js ≡ b
      by ms v left filters rest go true e = go (left ∙ e) (ap (λ c. (cond c (all_true (meanings T L ts) (placed n 1 1 k)) (done false)).answer) (sym e) ∙ rest)
      by ms v left filters rest go false e =
          out (mem k js) refl ∙ answered-done false b (ap (λ c. (cond c (all_true (meanings T L ts) (placed n 1 1 k)) (done false)).answer) (sym e) ∙ rest)
        where
          out : (d : Bool) → mem k js ≡ d → d ≡ false
          out true h = absurd (true≢false (sym (sub-mem k js ms (filtered-sub (meanings T L ts) n ms js filters) h) ∙ (left ∙ e)))
          out false h = refl

-- a node is a candidate of a step where it is on the axis and passes the test
abbrev pub found_by : Table → Axis → NodeTest → ℕ → List ℕ
found_by T axis node_test x = filter (passes T axis node_test) (axis_nodes T axis x)

axis-mem : (T : Table) (axis : Axis) (x k : ℕ) → mem k (axis_nodes T axis x) ≡ mem k (axis_order T axis x)
axis-mem T axis x k = by (is_reverse axis)
  where
    by : (b : Bool) → mem k (cond b (backwards (axis_order T axis x)) (axis_order T axis x)) ≡ mem k (axis_order T axis x)
    by true = mem-same k (backwards (axis_order T axis x)) (axis_order T axis x) (occurs-backwards k (axis_order T axis x))
    by false = refl

pub found-is : (T : Table) (axis : Axis) (node_test : NodeTest) (x k : ℕ) →
    mem k (found_by T axis node_test x) ≡ ((mem k (order T) && on_axis T axis x k) && passes T axis node_test k)
found-is T axis node_test x k =
    mem-filter (passes T axis node_test) k (axis_nodes T axis x)
    ∙ ap (λ b. b && passes T axis node_test k) (axis-mem T axis x k ∙ mem-filter (on_axis T axis x) k (order T))

pub candidates-are : (T : Table) (axis : Axis) (node_test : NodeTest) (x : ℕ) (ms : List ℕ) → (candidates T axis node_test x).answer ≡ Ok ms → found_by T axis node_test x ≡ ms
candidates-are T axis node_test x ms is = same_ok {F = EvalFault} (found_by T axis node_test x) ms (sym (candidates-answer T axis node_test x) ∙ is)

module _ (T : Table) (L : Lets) (n : ℕ) (s : TypedPatternStepTree) where
  -- what a step selects are candidates
  pub selected-candidate : (x k : ℕ) (js : List ℕ) → (step_at T (step_of T L s) n x).answer ≡ Ok js → mem k js ≡ true →
      (is_candidate T s x k ≡ true) × (mem k (order T) ≡ true)
  selected-candidate x k js is h =
      let one = came_before (candidates T s.axis s.test x) (λ ms. filtered (meanings T L s.predicates) n ms) js is in
      let listed : mem k one.first ≡ true = sub-mem k js one.first (filtered-sub (meanings T L s.predicates) n one.first js one.then) h in
      let q = parts (mem k (order T) && on_axis T s.axis x k) (passes T s.axis s.test k)
      (sym (found-is T s.axis s.test x k) ∙ ap (mem k) (candidates-are T s.axis s.test x one.first one.is) ∙ listed) in
      let r = parts (mem k (order T)) (on_axis T s.axis x k) q.0 in
      (both (on_axis T s.axis x k) (passes T s.axis s.test k) r.1 q.1, r.0)

  parent-is : WellFormed T → (axis : Axis) (x k : ℕ) → is_pattern_axis axis ≡ true → on_axis T axis x k ≡ true → parent_of T k ≡ Some x
  parent-is form axes.Child x k h on = form.kid_parent x k on
  parent-is form axes.Attribute x k h on = form.attribute_parent x k on
  parent-is form axes.Ancestor x k h on = absurd (true≢false (sym h))
  parent-is form axes.AncestorOrSelf x k h on = absurd (true≢false (sym h))
  parent-is form axes.Descendant x k h on = absurd (true≢false (sym h))
  parent-is form axes.DescendantOrSelf x k h on = absurd (true≢false (sym h))
  parent-is form axes.Following x k h on = absurd (true≢false (sym h))
  parent-is form axes.FollowingSibling x k h on = absurd (true≢false (sym h))
  parent-is form axes.Parent x k h on = absurd (true≢false (sym h))
  parent-is form axes.Preceding x k h on = absurd (true≢false (sym h))
  parent-is form axes.PrecedingSibling x k h on = absurd (true≢false (sym h))
  parent-is form axes.SelfNode x k h on = absurd (true≢false (sym h))

  -- a candidate survives its test where the step selects it
  pub survives-selected : WellFormed T → is_pattern_axis s.axis ≡ true → AllFitted L s.predicates → (x k : ℕ) (js : List ℕ) (b : Bool) →
      (step_at T (step_of T L s) n x).answer ≡ Ok js → is_candidate T s x k ≡ true → mem k (order T) ≡ true → (survives T L s n k).answer ≡ Ok b → mem k js ≡ b
  survives-selected form axis fits x k js b is candidate listed survived = by (some_positional s.predicates) refl survived
    where
      on : (on_axis T s.axis x k ≡ true) × (passes T s.axis s.test k ≡ true)
      on = parts (on_axis T s.axis x k) (passes T s.axis s.test k) candidate

      by : (q : Bool) → some_positional s.predicates ≡ q →
          (cond q (is_left T (step_of T L s) n k (parent_of T k)) (visit (all_true (meanings T L s.predicates) (placed n 1 1 k)))).answer ≡ Ok b → mem k js ≡ b
      by true e h =
          answered-done (mem k js) b
          (sym (answer_then (step_at T (step_of T L s) n x) (λ ms. done (mem k ms)) js is)
          ∙ ap (λ o. (is_left T (step_of T L s) n k o).answer) (sym (parent-is form s.axis x k axis on.0)) ∙ h)
      by false e h =
          let one = came_before (candidates T s.axis s.test x) (λ ms. filtered (meanings T L s.predicates) n ms) js is in
          tested-alone T L n s.predicates e fits one.first js one.then k b
          (ap (mem k) (sym (candidates-are T s.axis s.test x one.first one.is)) ∙ found-is T s.axis s.test x k
          ∙ both (mem k (order T) && on_axis T s.axis x k) (passes T s.axis s.test k) (both (mem k (order T)) (on_axis T s.axis x k) listed on.0) on.1)
          (sym (answer_visit (all_true (meanings T L s.predicates) (placed n 1 1 k))) ∙ h)
