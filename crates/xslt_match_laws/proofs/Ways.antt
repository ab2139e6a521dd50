-- Ways by which steps lead to a node, and where they select nodes without fault.
use Rattle.std.proofs.Common.{◌≡◌, ℕ, true, false, cond, ◌||◌, ◌&&◌, List, [], ◌∷◌, Ok, refl, sym, ◌∙◌, ap, subst, eq-eqb}
use Rattle.std.specs.List.{list_any}
use Rattle.doc_tree.specs.declared.axes.Axis.TheVariants as axes
use Rattle.doc_tree.specs.declared.axes.NodeTest.TheVariants as tests
use Rattle.doc_tree.specs.Lists.{mem}
use Rattle.doc_tree.specs.Table.{Table}
use Rattle.doc_tree.specs.Walks.{order}
use Rattle.doc_axes.specs.Axes.{on_axis}
use Rattle.doc_axes.specs.Sets.{in_order}
use Rattle.xp_tree.specs.declared.pattern.Join.{Join}
use Rattle.xp_tree.specs.declared.pattern.Join.TheVariants as joins
use Rattle.xp_typed_tree.specs.TypedTree.{TypedSteps, TypedPatternStepTree, typed_step, no_typed}
use Rattle.xp_outcome.specs.Evaluation.{Evaluation, done, gather}
use Rattle.xp_values.specs.declared.values.EvalFault.{EvalFault}
use Rattle.xp_meaning.specs.Paths.{Step, candidates, filtered, step_at, step_from, path}
use Rattle.xp_meaning.specs.Evaluation.{Lets, steps_meant}
use Rattle.xp_meaning.proofs.Choices.{came_before, same_ok}
use Rattle.xslt_match.specs.Ways.{is_anywhere}
use Rattle.xslt_match.specs.Matching.{step_of, is_candidate, leads, led_to, reaches}
use Rattle.xslt_match.proofs.Filters.{and-true, or-false, Found, found}
use Rattle.xslt_match.proofs.StepsAlong.{reaches_from}
use Rattle.xslt_match_laws.specs.Reading.{after_join, as_steps}
use Rattle.xslt_match_laws.proofs.Gathering.{answered-done, mem-filter, both, parts, in-filter, any-at, Drawn, given, drawn}
use Rattle.xslt_match_laws.proofs.Choosing.{candidates-are, found-is, selected-candidate}

-- a step selects a node at another one, without fault
pub record Selects (T : Table) (L : Lets) (n : ℕ) (s : TypedPatternStepTree) (x k : ℕ) : Type 0 where
  pub nodes : List ℕ
  pub answer : (step_at T (step_of T L s) n x).answer ≡ Ok nodes
  pub among : mem k nodes ≡ true

-- where a step from m looks for nodes
abbrev pub Looks : Table → Join → ℕ → ℕ → Type 0
Looks T joins.Nothing m x = m ≡ x
Looks T joins.Slash m x = m ≡ x
Looks T joins.DoubleSlash m x = (on_axis T axes.DescendantOrSelf m x ≡ true) × (mem x (order T) ≡ true)

-- one step of a way from m, and what holds of the node that it leads to
pub record Leg (T : Table) (L : Lets) (n : ℕ) (s : TypedPatternStepTree) (m : ℕ) (Rest : ℕ → Type 0) : Type 0 where
  pub at : ℕ
  pub to : ℕ
  pub looks : Looks T s.join m at
  pub selects : Selects T L n s at to
  pub rest : Rest to

-- a way by the steps from m to n
abbrev pub Way : Table → Lets → ℕ → List TypedPatternStepTree → ℕ → Type 0
Way T L n [] m = n ≡ m
Way T L n (s ∷ ss) m = Leg T L n s m (λ k. Way T L n ss k)

-- a step selects without fault at a node, and something holds of the nodes that it selects
pub record Chosen (T : Table) (L : Lets) (n : ℕ) (s : TypedPatternStepTree) (x : ℕ) (Rest : ℕ → Type 0) : Type 0 where
  pub nodes : List ℕ
  pub answer : (step_at T (step_of T L s) n x).answer ≡ Ok nodes
  pub rest : (k : ℕ) → mem k nodes ≡ true → Rest k

-- wherever the steps lead from m, they have no fault
abbrev pub Clean : Table → Lets → ℕ → List TypedPatternStepTree → ℕ → Type 0
Clean T L n [] m = Unit {0}
Clean T L n (s ∷ ss) m = (x : ℕ) → Looks T s.join m x → Chosen T L n s x (λ k. Clean T L n ss k)

-- a step leads to the candidates where it looks
pub looks-leads : (T : Table) (s : TypedPatternStepTree) (m x k : ℕ) → Looks T s.join m x → is_candidate T s x k ≡ true → leads T s m k ≡ true
looks-leads T s m x k looks candidate = by s.join looks
  where
    by : (j : Join) → Looks T j m x → cond (is_anywhere j) (list_any (λ y. on_axis T axes.DescendantOrSelf m y && is_candidate T s y k) (order T)) (is_candidate T s m k) ≡ true
    by joins.Nothing e = ap (λ y. is_candidate T s y k) e ∙ candidate
    by joins.Slash e = ap (λ y. is_candidate T s y k) e ∙ candidate
    by joins.DoubleSlash h =
        any-at (λ y. on_axis T axes.DescendantOrSelf m y && is_candidate T s y k) x (order T) h.1
        (both (on_axis T axes.DescendantOrSelf m x) (is_candidate T s x k) h.0 candidate)

-- a place where a step looks and has a candidate
pub record Looked (T : Table) (s : TypedPatternStepTree) (j : Join) (m k : ℕ) : Type 0 where
  pub at : ℕ
  pub looks : Looks T j m at
  pub candidate : is_candidate T s at k ≡ true

pub leads-looks : (T : Table) (s : TypedPatternStepTree) (m k : ℕ) → leads T s m k ≡ true → Looked T s s.join m k
leads-looks T s m k h = by s.join h
  where
    by : (j : Join) → cond (is_anywhere j) (list_any (λ y. on_axis T axes.DescendantOrSelf m y && is_candidate T s y k) (order T)) (is_candidate T s m k) ≡ true → Looked T s j m k
    by joins.Nothing e = record { at = m; looks = refl; candidate = e }
    by joins.Slash e = record { at = m; looks = refl; candidate = e }
    by joins.DoubleSlash e =
        let f : Found (λ y. on_axis T axes.DescendantOrSelf m y && is_candidate T s y k) (order T) = found (λ y. on_axis T axes.DescendantOrSelf m y && is_candidate T s y k) (order T) e in
        let q = parts (on_axis T axes.DescendantOrSelf m f.at) (is_candidate T s f.at k) f.passes in
        record { at = f.at; looks = (q.0, f.listed); candidate = q.1 }

-- the steps lead on where there is a way
pub way-reaches : (T : Table) (L : Lets) (n : ℕ) (ss : List TypedPatternStepTree) (k : ℕ) → Way T L n ss k → reaches T ss (k ∷ []) n ≡ true
way-reaches T L n [] k e = ap (λ b. b || false) (eq-eqb n k e)
way-reaches T L n (s ∷ ss) k leg =
    let q = selected-candidate T L n s leg.at leg.to leg.selects.nodes leg.selects.answer leg.selects.among in
    reaches_from T ss (led_to T s (k ∷ [])) n
    ∙ any-at (λ j. reaches T ss (j ∷ []) n) leg.to (led_to T s (k ∷ []))
    (in-filter (λ j. list_any (λ m. leads T s m j) (k ∷ [])) leg.to (order T) q.1
    (or-false (leads T s k leg.to) ∙ looks-leads T s k leg.at leg.to leg.looks q.0))
    (way-reaches T L n ss leg.to leg.rest)

-- the step `descendant-or-self::node()`
abbrev pub anywhere : Step
anywhere = record { axis = axes.DescendantOrSelf; test = tests.Any; predicates = [] }

module _ (T : Table) (n : ℕ) where
  anywhere-is : (m : ℕ) (js : List ℕ) → (step_at T anywhere n m).answer ≡ Ok js → (x : ℕ) → mem x js ≡ (mem x (order T) && on_axis T axes.DescendantOrSelf m x)
  anywhere-is m js is x =
      let one = came_before (candidates T axes.DescendantOrSelf tests.Any m) (λ ms. filtered [] n ms) js is in
      ap (mem x) (sym (candidates-are T axes.DescendantOrSelf tests.Any m one.first one.is ∙ answered-done one.first js one.then))
      ∙ found-is T axes.DescendantOrSelf tests.Any m x ∙ and-true (mem x (order T) && on_axis T axes.DescendantOrSelf m x)

  -- a step from some nodes: what it selects at each in order
  abbrev at_each : Step → ℕ → Evaluation EvalFault (List ℕ)
  at_each s m = step_at T s n m

  abbrev whole_set : ℕ → List ℕ → List ℕ
  whole_set m js = js

  from-drawn : (s : Step) (ms ks : List ℕ) → (step_from T s n ms).answer ≡ Ok ks → (k : ℕ) → mem k ks ≡ true → Drawn (at_each s) whole_set ms k
  from-drawn s ms ks is k h =
      let set = came_before (gather (λ _ m. step_at T s n m) (λ _ _ js. js) 1 ms) (λ js. done (in_order T js)) ks is in
      let q = parts (mem k (order T)) (mem k set.first) (sym (mem-filter (λ j. mem j set.first) k (order T)) ∙ ap (mem k) (answered-done (in_order T set.first) ks set.then) ∙ h) in
      drawn (at_each s) whole_set 1 ms set.first set.is k q.1

  pub record Each (s : Step) (m : ℕ) (ks : List ℕ) : Type 0 where
    pub nodes : List ℕ
    pub answer : (step_at T s n m).answer ≡ Ok nodes
    pub keeps : (k : ℕ) → mem k (order T) ≡ true → mem k nodes ≡ true → mem k ks ≡ true

  from-each : (s : Step) (ms ks : List ℕ) → (step_from T s n ms).answer ≡ Ok ks → (m : ℕ) → mem m ms ≡ true → Each s m ks
  from-each s ms ks is m h =
      let set = came_before (gather (λ _ m. step_at T s n m) (λ _ _ js. js) 1 ms) (λ js. done (in_order T js)) ks is in
      let g = given (at_each s) whole_set 1 ms set.first set.is m h in
      record {
        nodes = g.value;
        answer = g.answer;
        keeps = λ k live e. ap (mem k) (sym (answered-done (in_order T set.first) ks set.then)) ∙ in-filter (λ j. mem j set.first) k (order T) live (g.keeps k e);
      }

-- where a node came from
pub record Origin (T : Table) (L : Lets) (n : ℕ) (s : TypedPatternStepTree) (ms : List ℕ) (k : ℕ) : Type 0 where
  pub node : ℕ
  pub listed : mem node ms ≡ true
  pub at : ℕ
  pub looks : Looks T s.join node at
  pub selects : Selects T L n s at k

-- a pattern's step from some nodes, and the steps after it
pub record Walked (T : Table) (L : Lets) (n : ℕ) (s : TypedPatternStepTree) (rest : TypedSteps) (ms ns : List ℕ) : Type 0 where
  pub to : List ℕ
  pub go : (path T (steps_meant T L rest) n to).answer ≡ Ok ns
  pub each : (m x : ℕ) → mem m ms ≡ true → Looks T s.join m x → Chosen T L n s x (λ k. mem k to ≡ true)
  pub some : (k : ℕ) → mem k to ≡ true → Origin T L n s ms k

module _ (T : Table) (L : Lets) (n : ℕ) (s : TypedPatternStepTree) where
  chosen-at : (x : ℕ) (ks : List ℕ) → Each T n (step_of T L s) x ks → Chosen T L n s x (λ k. mem k ks ≡ true)
  chosen-at x ks e = record { nodes = e.nodes; answer = e.answer; rest = λ k h. e.keeps k (selected-candidate T L n s x k e.nodes e.answer h).1 h }

  -- the step alone
  at-once : (rest : TypedSteps) (ms ns : List ℕ) → ((m x : ℕ) → Looks T s.join m x → m ≡ x) → ((m : ℕ) → Looks T s.join m m) →
      (path T (steps_meant T L (typed_step s.axis s.test s.predicates rest)) n ms).answer ≡ Ok ns → Walked T L n s rest ms ns
  at-once rest ms ns same itself is =
      let one = came_before (step_from T (step_of T L s) n ms) (λ ks. path T (steps_meant T L rest) n ks) ns is in
      record {
        to = one.first;
        go = one.then;
        each = λ m x listed looks. chosen-at x one.first (from-each T n (step_of T L s) ms one.first one.is x (ap (λ y. mem y ms) (sym (same m x looks)) ∙ listed));
        some = λ k h. from k (from-drawn T n (step_of T L s) ms one.first one.is k h);
      }
    where
      from : (k : ℕ) → Drawn (at_each T n (step_of T L s)) (whole_set T n) ms k → Origin T L n s ms k
      from k d = record { node = d.at; listed = d.listed; at = d.at; looks = itself d.at; selects = record { nodes = d.value; answer = d.answer; among = d.drawn } }

  -- the step after `descendant-or-self::node()`
  further : (rest : TypedSteps) (ms ns : List ℕ) → ((m x : ℕ) → Looks T s.join m x → Looks T joins.DoubleSlash m x) → ((m x : ℕ) → Looks T joins.DoubleSlash m x → Looks T s.join m x) →
      (path T (steps_meant T L (typed_step axes.DescendantOrSelf tests.Any no_typed (typed_step s.axis s.test s.predicates rest))) n ms).answer ≡ Ok ns →
      Walked T L n s rest ms ns
  further rest ms ns below looked is =
      let one = came_before (step_from T anywhere n ms) (λ ks. path T (steps_meant T L (typed_step s.axis s.test s.predicates rest)) n ks) ns is in
      let two = came_before (step_from T (step_of T L s) n one.first) (λ ks. path T (steps_meant T L rest) n ks) ns one.then in
      record {
        to = two.first;
        go = two.then;
        each = λ m x listed looks. chosen-at x two.first (from-each T n (step_of T L s) one.first two.first two.is x (down m x one.first (below m x looks) (from-each T n anywhere ms one.first one.is m listed)));
        some = λ k h. from k one.first (from-drawn T n (step_of T L s) one.first two.first two.is k h) (λ x j. from-drawn T n anywhere ms one.first one.is x j);
      }
    where
      down : (m x : ℕ) (ks : List ℕ) → Looks T joins.DoubleSlash m x → Each T n anywhere m ks → mem x ks ≡ true
      down m x ks looks e =
          e.keeps x looks.1 (anywhere-is T n m e.nodes e.answer x ∙ both (mem x (order T)) (on_axis T axes.DescendantOrSelf m x) looks.1 looks.0)

      from : (k : ℕ) (xs : List ℕ) → Drawn (at_each T n (step_of T L s)) (whole_set T n) xs k → ((x : ℕ) → mem x xs ≡ true → Drawn (at_each T n anywhere) (whole_set T n) ms x) → Origin T L n s ms k
      from k xs d back =
          let u = back d.at d.listed in
          let q = parts (mem d.at (order T)) (on_axis T axes.DescendantOrSelf u.at d.at) (sym (anywhere-is T n u.at u.value u.answer d.at) ∙ u.drawn) in
          record { node = u.at; listed = u.listed; at = d.at; looks = looked u.at d.at (q.1, q.0); selects = record { nodes = d.value; answer = d.answer; among = d.drawn } }

  walked : (rest : TypedSteps) (ms ns : List ℕ) → (path T (steps_meant T L (after_join s.join (typed_step s.axis s.test s.predicates rest))) n ms).answer ≡ Ok ns → Walked T L n s rest ms ns
  walked rest ms ns is = by s.join refl is
    where
      by : (j : Join) → s.join ≡ j → (path T (steps_meant T L (after_join j (typed_step s.axis s.test s.predicates rest))) n ms).answer ≡ Ok ns → Walked T L n s rest ms ns
      by joins.Nothing e h = at-once rest ms ns (λ m x l. subst (λ j. Looks T j m x) e l) (λ m. subst (λ j. Looks T j m m) (sym e) refl) h
      by joins.Slash e h = at-once rest ms ns (λ m x l. subst (λ j. Looks T j m x) e l) (λ m. subst (λ j. Looks T j m m) (sym e) refl) h
      by joins.DoubleSlash e h = further rest ms ns (λ m x l. subst (λ j. Looks T j m x) e l) (λ m x l. subst (λ j. Looks T j m x) (sym e) l) h

-- a node from which there is a way
pub record Begun (T : Table) (L : Lets) (n : ℕ) (ss : List TypedPatternStepTree) (ms : List ℕ) : Type 0 where
  pub node : ℕ
  pub listed : mem node ms ≡ true
  pub way : Way T L n ss node

module _ (T : Table) (L : Lets) (n : ℕ) where
  abbrev walks : List TypedPatternStepTree → List ℕ → Evaluation EvalFault (List ℕ)
  walks ss ms = path T (steps_meant T L (as_steps ss)) n ms

  -- a path without fault has none at any node from which it goes
  pub path-clean : (ss : List TypedPatternStepTree) (ms ns : List ℕ) → (walks ss ms).answer ≡ Ok ns → (m : ℕ) → mem m ms ≡ true → Clean T L n ss m
  path-clean [] ms ns is m h = tt
  path-clean (s ∷ ss) ms ns is m h =
      let w = walked T L n s (as_steps ss) ms ns is in
      λ x looks. let c = w.each m x h looks in record { nodes = c.nodes; answer = c.answer; rest = λ k j. path-clean ss w.to ns w.go k (c.rest k j) }

  -- to what it selects there is a way
  pub path-way : (ss : List TypedPatternStepTree) (ms ns : List ℕ) → (walks ss ms).answer ≡ Ok ns → mem n ns ≡ true → Begun T L n ss ms
  path-way [] ms ns is h = record { node = n; listed = ap (mem n) (answered-done ms ns is) ∙ h; way = refl }
  path-way (s ∷ ss) ms ns is h =
      let w = walked T L n s (as_steps ss) ms ns is in
      let later = path-way ss w.to ns w.go h in
      let from = w.some later.node later.listed in
      record { node = from.node; listed = from.listed; way = record { at = from.at; to = later.node; looks = from.looks; selects = from.selects; rest = later.way } }

  -- and it selects that to which there is a way
  pub path-member : (ss : List TypedPatternStepTree) (ms ns : List ℕ) → (walks ss ms).answer ≡ Ok ns → (m : ℕ) → mem m ms ≡ true → Way T L n ss m → mem n ns ≡ true
  path-member [] ms ns is m h e = ap (mem n) (sym (answered-done ms ns is)) ∙ (ap (λ k. mem k ms) e ∙ h)
  path-member (s ∷ ss) ms ns is m h leg =
      let w = walked T L n s (as_steps ss) ms ns is in
      let c = w.each m leg.at h leg.looks in
      let same : leg.selects.nodes ≡ c.nodes = same_ok {F = EvalFault} leg.selects.nodes c.nodes (sym leg.selects.answer ∙ c.answer) in
      path-member ss w.to ns w.go leg.to (c.rest leg.to (ap (mem leg.to) (sym same) ∙ leg.selects.among)) leg.rest
