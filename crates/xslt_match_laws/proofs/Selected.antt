-- What a pattern matches is what it selects as an expression.
use Rattle.std.proofs.Common.{◌≡◌, ℕ, zero, suc, ◌+◌, Bool, true, false, ◌||◌, List, [], ◌∷◌, ◌++◌, length, Option, None, Some, Ok, eqb, refl, sym, ◌∙◌, ap, subst, ◌⊎◌, inl, inr, ⊎_elim, true≢false, eqb-true}
use Rattle.std.proofs.Math.Bool.{or_comm}
use Rattle.std.specs.Prelude.{flat_map}
use Rattle.std.specs.List.{list_any}
use Rattle.doc_tree.specs.declared.axes.Axis.TheVariants as axes
use Rattle.doc_tree.specs.Laws.{WellFormed, Ordered, HasWaysUp}
use Rattle.doc_tree.specs.Lists.{mem}
use Rattle.doc_tree.specs.Table.{Table, parent_of, is_live}
use Rattle.doc_tree.specs.Walks.{order, climb, ancestors, above}
use Rattle.doc_tree.proofs.ListLemmas.{mem-append, mem-head, mem-one}
use Rattle.doc_axes.specs.Axes.{on_axis}
use Rattle.doc_axes.specs.Sets.{in_order}
use Rattle.xp_typed_tree.specs.TypedTree.{TypedPathTree, TypedSteps, location}
use Rattle.xp_typed_tree.specs.WellTyped.{PatternStepsTyped, PathsTyped}
use Rattle.xp_outcome.specs.Evaluation.{Evaluation, Read, done, behind, bind, all_reading, gather}
use Rattle.xp_values.specs.declared.values.Value.{Value}
use Rattle.xp_values.specs.declared.values.Value.TheVariants.{NodeSet}
use Rattle.xp_values.specs.declared.values.EvalFault.{EvalFault}
use Rattle.xp_meaning.specs.declared.want.Want.TheVariants.{AsItIs}
use Rattle.xp_meaning.specs.Conversions.{nodes_of, as_wanted}
use Rattle.xp_meaning.specs.Paths.{Meaning, path, placed}
use Rattle.xp_meaning.specs.Evaluation.{Lets, meaning, meanings, values, start_nodes, steps_meant}
use Rattle.xp_meaning.proofs.Answers.{answer_visit}
use Rattle.xp_meaning.proofs.Choices.{came_before}
use Rattle.xslt_match.specs.Matching.{starts, path_matches, some_path}
use Rattle.xslt_match.specs.Names.{pattern_names}
use Rattle.xslt_match.proofs.Filters.{iff, found, kept-passes}
use Rattle.xslt_match_laws.specs.Reading.{as_steps, as_place, as_paths, as_expression}
use Rattle.xslt_match_laws.specs.inner.Fitted.{StepsFitted, PathsFitted}
use Rattle.xslt_match_laws.proofs.Fitted.{paths_fitted}
use Rattle.xslt_match_laws.specs.Laws.{MatchesAreSelected}
use Rattle.xslt_match_laws.proofs.Gathering.{answered-done, mem-filter, parts, in-filter, in-front, in-back, any-at}
use Rattle.xslt_match_laws.proofs.Ways.{Way, Clean, Begun, path-clean, path-way, path-member}
use Rattle.xslt_match_laws.proofs.Survivors.{Chained, chained}

-- where a path begins
abbrev begin : Bool → ℕ → ℕ
begin true m = 0
begin false m = m

-- some path has a way from a context node
abbrev SomeWay : Table → Lets → ℕ → List TypedPathTree → ℕ → Type 0
SomeWay T L n [] m = ⊥
SomeWay T L n (p ∷ ps) m = Way T L n p.steps (begin p.from_root m) ⊎ SomeWay T L n ps m

abbrev AllClean : Table → Lets → ℕ → List TypedPathTree → ℕ → Type 0
AllClean T L n [] m = Unit {0}
AllClean T L n (p ∷ ps) m = Clean T L n p.steps (begin p.from_root m) × AllClean T L n ps m

-- the value of a location path
record Located (T : Table) (L : Lets) (n : ℕ) (steps : TypedSteps) (from : ℕ) (v : Value) : Type 0 where
  pub nodes : List ℕ
  pub is : v ≡ NodeSet nodes
  pub selected : (path T (steps_meant T L steps) n (from ∷ [])).answer ≡ Ok nodes

-- what the values of the paths tell of n
record Told (T : Table) (L : Lets) (n : ℕ) (ps : List TypedPathTree) (m : ℕ) (nodes : List ℕ) : Type 0 where
  pub clean : AllClean T L n ps m
  pub way : mem n nodes ≡ true → SomeWay T L n ps m
  pub member : SomeWay T L n ps m → mem n nodes ≡ true

-- a context node at or above n of which something holds
record Context (T : Table) (n : ℕ) (Holds : ℕ → Type 0) : Type 0 where
  pub node : ℕ
  pub listed : mem node (above T n) ≡ true
  pub holds : Holds node

-- what the tests of paths tell of n
record Matched (T : Table) (L : Lets) (n : ℕ) (ps : List TypedPathTree) (b : Bool) : Type 0 where
  pub way : b ≡ true → Context T n (λ m. SomeWay T L n ps m)
  pub member : (m : ℕ) → mem m (above T n) ≡ true → SomeWay T L n ps m → b ≡ true

module _ (T : Table) (L : Lets) (n m : ℕ) where
  located : (root : Bool) (steps : TypedSteps) (v : Value) → (meaning T L (location (as_place root) steps) (placed n 1 1 m)).answer ≡ Ok v → Located T L n steps (begin root m) v
  located root steps v is =
      let one = came_before (start_nodes T L (as_place root) (placed n 1 1 m)) (λ ns. bind (path T (steps_meant T L steps) n ns) (λ ms. done (NodeSet ms))) v
      (sym (answer_visit (bind (start_nodes T L (as_place root) (placed n 1 1 m)) (λ ns. bind (path T (steps_meant T L steps) n ns) (λ ms. done (NodeSet ms))))) ∙ is) in
      let two = came_before (path T (steps_meant T L steps) n one.first) (λ ms. done (NodeSet ms)) v one.then in
      record {
        nodes = two.first;
        is = sym (answered-done (NodeSet two.first) v two.then);
        selected = ap (λ ns. (path T (steps_meant T L steps) n ns).answer) (at root one.first one.is) ∙ two.is;
      }
    where
      at : (r : Bool) (ns : List ℕ) → (start_nodes T L (as_place r) (placed n 1 1 m)).answer ≡ Ok ns → begin r m ∷ [] ≡ ns
      at true ns e = answered-done (0 ∷ []) ns e
      at false ns e = answered-done (m ∷ []) ns e

  abbrev act : ℕ → Meaning → Evaluation EvalFault Value
  act i meant = bind (meant (placed n 1 1 m)) (λ v. as_wanted T AsItIs v)

  abbrev piece : ℕ → Meaning → Value → List Value
  piece i meant v = v ∷ []

  told-one : (p : TypedPathTree) (ps : List TypedPathTree) (v : Value) (vs ws : List Value) → Located T L n (as_steps p.steps) (begin p.from_root m) v →
      Told T L n ps m (flat_map nodes_of vs) → (v ∷ []) ++ vs ≡ ws → Told T L n (p ∷ ps) m (flat_map nodes_of ws)
  told-one p ps v vs ws l more joined =
      let from : ℕ = begin p.from_root m in
      let itself : mem from (from ∷ []) ≡ true = mem-head from [] in
      let all : l.nodes ++ flat_map nodes_of vs ≡ flat_map nodes_of ws = ap (λ w. nodes_of w ++ flat_map nodes_of vs) (sym l.is) ∙ ap (flat_map nodes_of) joined in
      record {
        clean = (path-clean T L n p.steps (from ∷ []) l.nodes l.selected from itself, more.clean);
        way = λ h. ⊎_elim (λ (i : mem n l.nodes ≡ true). inl (begun from (path-way T L n p.steps (from ∷ []) l.nodes l.selected i)))
            (λ (i : mem n (flat_map nodes_of vs) ≡ true). inr (more.way i)) (mem-append n l.nodes (flat_map nodes_of vs) (ap (mem n) all ∙ h));
        member = λ w. ap (mem n) (sym all) ∙ ⊎_elim
            (λ (i : Way T L n p.steps from). in-front n l.nodes (flat_map nodes_of vs) (path-member T L n p.steps (from ∷ []) l.nodes l.selected from itself i))
            (λ (i : SomeWay T L n ps m). in-back n l.nodes (flat_map nodes_of vs) (more.member i)) w;
      }
    where
      begun : (from : ℕ) → Begun T L n p.steps (from ∷ []) → Way T L n p.steps from
      begun from b = subst (λ k. Way T L n p.steps k) (mem-one b.node from b.listed) b.way

  told : (i : ℕ) (ps : List TypedPathTree) (vs : List Value) → (gather act piece i (meanings T L (as_paths ps))).answer ≡ Ok vs → Told T L n ps m (flat_map nodes_of vs)
  told i [] vs is =
      let none : mem n (flat_map nodes_of vs) ≡ false = ap (λ ws. mem n (flat_map nodes_of ws)) (sym (answered-done [] vs is)) in
      record { clean = tt; way = λ h. absurd (true≢false (sym h ∙ none)); member = λ w. absurd w }
  told i (p ∷ ps) vs is =
      let meant : Meaning = meaning T L (location (as_place p.from_root) (as_steps p.steps)) in
      let one = came_before (act i meant) (λ v. bind (gather act piece (i + 1) (meanings T L (as_paths ps))) (λ rest. done ((v ∷ []) ++ rest))) vs is in
      let more = came_before (gather act piece (i + 1) (meanings T L (as_paths ps))) (λ rest. done ((one.first ∷ []) ++ rest)) vs one.then in
      let itself = came_before (meant (placed n 1 1 m)) (λ v. as_wanted T AsItIs v) one.first one.is in
      told-one p ps one.first more.first vs
      (located p.from_root (as_steps p.steps) one.first (itself.is ∙ ap Ok (answered-done itself.first one.first itself.then)))
      (told (i + 1) ps more.first more.is) (answered-done ((one.first ∷ []) ++ more.first) vs more.then)

  -- what the pattern read as an expression tells of n at a context node
  evaluated : (ps : List TypedPathTree) (nodes : List ℕ) → mem n (order T) ≡ true → (meaning T L (as_expression ps) (placed n 1 1 m)).answer ≡ Ok (NodeSet nodes) → Told T L n ps m nodes
  evaluated ps nodes live is =
      let whole = came_before (values T (λ _. AsItIs) (meanings T L (as_paths ps)) (placed n 1 1 m)) (λ vs. done (NodeSet (in_order T (flat_map nodes_of vs)))) (NodeSet nodes)
      (sym (answer_visit (bind (values T (λ _. AsItIs) (meanings T L (as_paths ps)) (placed n 1 1 m)) (λ vs. done (NodeSet (in_order T (flat_map nodes_of vs)))))) ∙ is) in
      let t = told 0 ps whole.first whole.is in
      let all : List ℕ = flat_map nodes_of whole.first in
      let same : in_order T all ≡ nodes = ap nodes_of (answered-done (NodeSet (in_order T all)) (NodeSet nodes) whole.then) in
      record {
        clean = t.clean;
        way = λ h. t.way (parts (mem n (order T)) (mem n all) (sym (mem-filter (λ k. mem k all) n (order T)) ∙ ap (mem n) same ∙ h)).1;
        member = λ w. ap (mem n) (sym same) ∙ in-filter (λ k. mem k all) n (order T) live (t.member w);
      }

module _ (T : Table) (form : WellFormed T) (ord : Ordered T) (up : HasWaysUp T) (L : Lets) (n : ℕ) (live : is_live T n ≡ true) where
  climb-live : (steps : ℕ) (o : Option ℕ) (m : ℕ) → ((p : ℕ) → o ≡ Some p → is_live T p ≡ true) → mem m (climb T steps o) ≡ true → is_live T m ≡ true
  climb-live zero o m all h = absurd (true≢false (sym h))
  climb-live (suc steps) None m all h = absurd (true≢false (sym h))
  climb-live (suc steps) (Some p) m all h = by (eqb m p) refl h (λ i. climb-live steps (parent_of T p) m (λ q e. up.parent_live p q e) i)
    where
      by : (b : Bool) → eqb m p ≡ b → (b || mem m (climb T steps (parent_of T p))) ≡ true → (mem m (climb T steps (parent_of T p)) ≡ true → is_live T m ≡ true) → is_live T m ≡ true
      by true e j go = ap (is_live T) (eqb-true m p e) ∙ all p refl
      by false e j go = go j

  above-live : (m : ℕ) → mem m (above T n) ≡ true → is_live T m ≡ true
  above-live m h = by (eqb m n) refl h
    where
      by : (b : Bool) → eqb m n ≡ b → (b || mem m (ancestors T n)) ≡ true → is_live T m ≡ true
      by true e j = ap (is_live T) (eqb-true m n e) ∙ live
      by false e j = climb-live (length T) (parent_of T n) m (λ q i. up.parent_live n q i) j

  -- chains begin at the nodes at or above n
  starts-above : (m : ℕ) → mem m (starts T false n) ≡ true → mem m (above T n) ≡ true
  starts-above m h = or_comm (eqb m n) (mem m (ancestors T n)) ∙ kept-passes (on_axis T axes.AncestorOrSelf n) m (order T) h

  above-starts : (m : ℕ) → mem m (above T n) ≡ true → mem m (starts T false n) ≡ true
  above-starts m h =
      in-filter (on_axis T axes.AncestorOrSelf n) m (order T) (sym (ord.live_in_order m) ∙ above-live m h) (or_comm (mem m (ancestors T n)) (eqb m n) ∙ h)

  -- a path whose chains are tested, where its evaluations have no fault
  path-chained : (p : TypedPathTree) (b : Bool) → PatternStepsTyped p.steps → StepsFitted L p.steps → ((m : ℕ) → mem m (above T n) ≡ true → Clean T L n p.steps (begin p.from_root m)) →
      (path_matches T L n p).answer ≡ Ok b → Chained T L n p.steps (starts T p.from_root n) b
  path-chained p b typed fits clean is =
      chained T form L n p.steps (starts T p.from_root n) (starts T p.from_root n) b typed fits (λ m h. h) (by p.from_root clean) is
    where
      by : (root : Bool) → ((m : ℕ) → mem m (above T n) ≡ true → Clean T L n p.steps (begin root m)) → (m : ℕ) → mem m (starts T root n) ≡ true → Clean T L n p.steps m
      by true all m h = subst (λ k. Clean T L n p.steps k) (sym (mem-one m 0 h)) (all n (mem-head n (ancestors T n)))
      by false all m h = all m (starts-above m h)

  -- a context node at or above n
  chain-way : (p : TypedPathTree) (root : Bool) → Begun T L n p.steps (starts T root n) → Context T n (λ m. Way T L n p.steps (begin root m))
  chain-way p true w = record { node = n; listed = mem-head n (ancestors T n); holds = subst (λ k. Way T L n p.steps k) (mem-one w.node 0 w.listed) w.way }
  chain-way p false w = record { node = w.node; listed = starts-above w.node w.listed; holds = w.way }

  chain-member : (p : TypedPathTree) (root : Bool) (b : Bool) → Chained T L n p.steps (starts T root n) b → (m : ℕ) → mem m (above T n) ≡ true → Way T L n p.steps (begin root m) → b ≡ true
  chain-member p true b c m h w = c.member 0 (mem-head 0 []) w
  chain-member p false b c m h w = c.member m (above-starts m h) w

  -- what the tests of the paths tell
  matched : (ps : List TypedPathTree) (b : Bool) → PathsTyped ps → PathsFitted L ps → ((m : ℕ) → mem m (above T n) ≡ true → AllClean T L n ps m) →
      (some_path T L n ps).answer ≡ Ok b → Matched T L n ps b
  matched [] b typed fits clean is =
      record { way = λ h. absurd (true≢false (sym h ∙ sym (answered-done false b is))); member = λ m h w. absurd w }
  matched (p ∷ ps) b typed fits clean is =
      let one = came_before (path_matches T L n p) (λ x. bind (some_path T L n ps) (λ y. done (x || y))) b is in
      let two = came_before (some_path T L n ps) (λ y. done (one.first || y)) b one.then in
      join p ps one.first two.first b (answered-done (one.first || two.first) b two.then)
      (path-chained p one.first typed.0 fits.0 (λ m h. (clean m h).0) one.is) (matched ps two.first typed.1 fits.1 (λ m h. (clean m h).1) two.is)
    where
      join : (p : TypedPathTree) (ps : List TypedPathTree) (x y b : Bool) → (x || y) ≡ b → Chained T L n p.steps (starts T p.from_root n) x → Matched T L n ps y → Matched T L n (p ∷ ps) b
      join p ps x y b is c more =
          record {
            way = λ h. either x y (is ∙ h) (λ e. widen (chain-way p p.from_root (c.way e))) (λ e. later (more.way e));
            member = λ m h w. sym is ∙ ⊎_elim (λ (i : Way T L n p.steps (begin p.from_root m)). ap (λ q. q || y) (chain-member p p.from_root x c m h i))
                (λ (i : SomeWay T L n ps m). or-true x y (more.member m h i)) w;
          }
        where
          widen : Context T n (λ m. Way T L n p.steps (begin p.from_root m)) → Context T n (λ m. SomeWay T L n (p ∷ ps) m)
          widen k = record { node = k.node; listed = k.listed; holds = inl k.holds }

          later : Context T n (λ m. SomeWay T L n ps m) → Context T n (λ m. SomeWay T L n (p ∷ ps) m)
          later k = record { node = k.node; listed = k.listed; holds = inr k.holds }

          or-true : (q r : Bool) → r ≡ true → (q || r) ≡ true
          or-true true r e = refl
          or-true false r e = e

          either : (q r : Bool) → (q || r) ≡ true → (q ≡ true → Context T n (λ m. SomeWay T L n (p ∷ ps) m)) → (r ≡ true → Context T n (λ m. SomeWay T L n (p ∷ ps) m)) → Context T n (λ m. SomeWay T L n (p ∷ ps) m)
          either true r h f g = f refl
          either false r h f g = g h

-- names that are read don't change the answer
answer_reading : {A : Type 0} (xs : List Read) (m : Evaluation EvalFault A) → (all_reading xs m).answer ≡ m.answer
unfolding all_reading behind
answer_reading xs m = refl

pub matches_are_selected : (T : Table) → WellFormed T → Ordered T → HasWaysUp T → MatchesAreSelected T
matches_are_selected T form ord up L ps n sets b live typed fits evaluates is =
    let here : mem n (order T) ≡ true = sym (ord.live_in_order n) ∙ live in
    let told_at : (m : ℕ) → mem m (above T n) ≡ true → Told T L n ps m (sets m) = λ m h. evaluated T L n m ps (sets m) here (evaluates m h) in
    let names = pattern_names T n ps in
    let rest = some_path T L n ps in
    let tested = matched T form ord up L n live ps b typed (paths_fitted L ps typed fits) (λ m h. (told_at m h).clean)
    (sym (answer_visit (all_reading names rest) ∙ answer_reading names rest) ∙ is) in
    iff b (list_any (λ m. mem n (sets m)) (above T n))
    (λ h. let k = tested.way h in any-at (λ m. mem n (sets m)) k.node (above T n) k.listed ((told_at k.node k.listed).member k.holds))
    (λ h. let f = found (λ m. mem n (sets m)) (above T n) h in tested.member f.at f.listed ((told_at f.at f.listed).way f.passes))
