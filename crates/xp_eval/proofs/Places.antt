-- A predicate that asks for a place keeps the node there.
use Rattle.std.proofs.Common.{◌≡◌, ℕ, zero, suc, ◌+◌, ◌-◌, ◌<◌, ◌≤◌, Bool, true, false, List, [], ◌∷◌, ◌++◌, length, refl, sym, ap, ◌∙◌, subst, arith, if◌then◌else◌, Option, None, Some, Ok, Err}
use Rattle.std.specs.Prelude.{ℤ, Vec, pos, slice_get, IfSome}
use Rattle.std.specs.Option.{option_to_list}
use Rattle.std.specs.declared.alloc.Global.{Global}
use Rattle.std.proofs.lemmas.Int.{ints}
use Rattle.xp_outcome.specs.Evaluation.{Evaluation, bind, done, gather, visit, visits}
use Rattle.xp_outcome.specs.Recorded.{Recorded}
use Rattle.xp_outcome.specs.Running.{Ran, no_memory}
use Rattle.xp_outcome.proofs.Runs.{ran_alike, ran_done, ran_late, ran_visits}
use Rattle.xp_outcome.proofs.Outcomes.{behind-behind, behind-nothing, bind_assoc, bind-done, bind-visit, bind-visits}
use Rattle.xp_values.specs.declared.values.EvalFault.{EvalFault}
use Rattle.xp_values.specs.declared.values.Value.{Value}
use Rattle.xp_meaning.specs.Functions.{counted}
use Rattle.xp_meaning.specs.Paths.{chosen, holds_at, filtered, kept, placed as one, step_at}
use Rattle.xp_typed_tree.specs.declared.expr.TypedExpr.{TypedExpr}
use Rattle.xp_typed_tree.specs.declared.expr.TypedExpr.TheVariants as exprs
use Rattle.xp_typed_tree.specs.declared.function.Function.{Function}
use Rattle.xp_typed_tree.specs.declared.function.Function.TheVariants.{Last}
use Rattle.xp_typed_tree.specs.TypedView.{typed_seen, typed_tree_of}
use Rattle.xp_values.specs.declared.values.Value.TheVariants.{Number}
use Rattle.xp_values.specs.declared.numbers.Num.TheVariants.{Whole}
use Rattle.xp_meaning.specs.declared.context.Context.{Context}
use Rattle.xp_meaning.specs.Evaluation.{Lets, meaning, meanings}
use Rattle.doc_tree.specs.Table.{Table}
use Rattle.doc_axes.specs.Axes.{axis_nodes}
use Rattle.doc_axes.specs.Places.{IsPlaced, node_at}
use Rattle.doc_axes.specs.declared.placed.Placed.{Placed}
use Rattle.xp_typed_tree.specs.declared.expr.TypedStep.{TypedStep, out-TypedStep}
use Rattle.xp_eval.specs.declared.positions.Asked.{Asked}
use Rattle.xp_eval.specs.inner.Candidates.{candidates_of, found}
use Rattle.xp_eval.specs.inner.Places.{IsAskedAt, at_place, place_for}
use Rattle.xp_eval.specs.Steps.{step_meant}
use Rattle.xp_eval.proofs.Views.{view-bare-Call, view-Number}

-- visits, and then an answer, or want of memory
pub counted-ends : {m : Evaluation EvalFault (List ℕ)} {ns found : List ℕ} {before after : ℕ} (k : ℕ) (held : Recorded) → m ≡ visits k (done ns) → found ≡ ns → after ≡ before + k →
    Ran m (Ok found) held held before after
counted-ends {ns = ns} {found = found} {before = before} {after = after} k held visited is count =
    ran_alike visited (ran_visits k
    (subst (λ (r : List ℕ). Ran {F = EvalFault} (done ns) (Ok r) held held (before + k) after) (sym is)
    (subst (λ (n : ℕ). Ran {F = EvalFault} (done ns) (Ok ns) held held (before + k) n) (sym count) (ran_done ns held (before + k)))))

pub counted-late : {m : Evaluation EvalFault (List ℕ)} (ns : List ℕ) {before after : ℕ} (k : ℕ) (held : Recorded) → m ≡ visits k (done ns) → after ≡ before + k →
    Ran m (Err no_memory) held held before after
counted-late ns {before = before} {after = after} k held visited count =
    ran_alike visited (ran_visits k (subst (λ (n : ℕ). Ran {F = EvalFault} (done ns) (Err no_memory) held held (before + k) n) (sym count) (ran_late (done ns) held (before + k))))

module _ (place : ℕ) (act : ℕ → ℕ → Evaluation EvalFault Value) (asks : (i n : ℕ) → act i n ≡ visit (done (counted place))) where
  -- a visit at each node, and the one at the place
  pub gathered : (i : ℕ) (ns : List ℕ) → gather act chosen i ns ≡ visits (length ns) (done (at_place place i ns))
  unfolding visit visits
  gathered i [] = sym (behind-nothing (done []))
  gathered i (n ∷ ns) =
      ap (λ m. bind m (λ v. bind (gather act chosen (i + 1) ns) (λ rest. done (chosen i n v ++ rest)))) (asks i n)
      ∙ (bind-visit (done (counted place)) (λ v. bind (gather act chosen (i + 1) ns) (λ rest. done (chosen i n v ++ rest)))
      ∙ (ap visit (bind-done (counted place) (λ v. bind (gather act chosen (i + 1) ns) (λ rest. done (chosen i n v ++ rest)))
      ∙ (ap (λ m. bind m (λ rest. done (chosen i n (counted place) ++ rest))) (gathered (i + 1) ns)
      ∙ (bind-visits (length ns) (done (at_place place (i + 1) ns)) (λ rest. done (chosen i n (counted place) ++ rest))
      ∙ ap (visits (length ns)) (bind-done (at_place place (i + 1) ns) (λ rest. done (chosen i n (counted place) ++ rest))))))
      ∙ (behind-behind [] [] 1 (length ns) (done (at_place place i (n ∷ ns)))
      ∙ ap (λ (k : ℕ). visits k (done (at_place place i (n ∷ ns)))) (omega arith))))

  -- what comes of it, for so many steps
  pub keeps : (i : ℕ) (ns found : List ℕ) (held : Recorded) (before after : ℕ) → found ≡ at_place place i ns → after ≡ before + length ns → Ran (gather act chosen i ns) (Ok found) held held before after
  keeps i ns found held before after is count = counted-ends (length ns) held (gathered i ns) is count

  pub keeps-late : (i : ℕ) (ns : List ℕ) (held : Recorded) (before after : ℕ) → after ≡ before + length ns → Ran (gather act chosen i ns) (Err no_memory) held held before after
  keeps-late i ns held before after count = counted-late (at_place place i ns) (length ns) held (gathered i ns) count

-- a whole number is the position there, and at no other
here : (i : ℕ) → holds_at i (counted i) ≡ true
here i = grind (arith, ints)

elsewhere : (place i : ℕ) → (place ≡ i → ⊥) → holds_at i (counted place) ≡ false
elsewhere place i other = grind (arith, ints)

stays : (i n : ℕ) → chosen i n (counted i) ≡ n ∷ []
stays i n = ap (λ (b : Bool). if b then n ∷ [] else []) (here i)

goes : (place i n : ℕ) → (place ≡ i → ⊥) → chosen i n (counted place) ≡ []
goes place i n other = ap (λ (b : Bool). if b then n ∷ [] else []) (elsewhere place i other)

-- no node stands before the first
pub none-before : (place i : ℕ) (ns : List ℕ) → place < i → at_place place i ns ≡ []
none-before place i [] low = refl
none-before place i (n ∷ ns) low =
    ap (λ (found : List ℕ). found ++ at_place place (i + 1) ns) (goes place i n (λ is. absurd (omega (arith, low, is)))) ∙ none-before place (i + 1) ns (omega (arith, low))

-- the node that stands so far behind the first
pub there : (k i : ℕ) (ns : List ℕ) (n : ℕ) → slice_get ns k ≡ Some n → at_place (i + k) i ns ≡ n ∷ []
there k i [] n is = absurd (cc)
there zero i (m ∷ ns) n is =
    let same : m ≡ n = cc in
    let start : i + 0 ≡ i = omega arith in
    subst (λ (p : ℕ). chosen i m (counted p) ++ at_place p (i + 1) ns ≡ n ∷ []) (sym start)
    (ap (λ (found : List ℕ). found ++ at_place i (i + 1) ns) (stays i m) ∙ ap (λ (rest : List ℕ). m ∷ rest) (none-before i (i + 1) ns (omega arith)) ∙ ap (λ (x : ℕ). x ∷ []) same)
there (suc k) i (m ∷ ns) n is =
    let next : (i + 1) + k ≡ i + suc k = omega arith in
    ap (λ (found : List ℕ). found ++ at_place (i + suc k) (i + 1) ns) (goes (i + suc k) i m (λ same. absurd (omega (arith, same))))
    ∙ subst (λ (p : ℕ). at_place p (i + 1) ns ≡ n ∷ []) next (there k (i + 1) ns n is)

-- and none stands behind the last
pub none-behind : (k i : ℕ) (ns : List ℕ) → length ns ≤ k → at_place (i + k) i ns ≡ []
none-behind k i [] far = refl
none-behind zero i (m ∷ ns) far = absurd (omega (arith, far))
none-behind (suc k) i (m ∷ ns) far =
    let next : (i + 1) + k ≡ i + suc k = omega arith in
    ap (λ (found : List ℕ). found ++ at_place (i + suc k) (i + 1) ns) (goes (i + suc k) i m (λ same. absurd (omega (arith, same))))
    ∙ subst (λ (p : ℕ). at_place p (i + 1) ns ≡ []) next (none-behind k (i + 1) ns (omega (arith, far)))

-- so the nodes at a place are the one that stands there
get-none : (ns : List ℕ) (k : ℕ) → slice_get ns k ≡ None → length ns ≤ k
get-none [] k none = omega arith
get-none (n ∷ ns) zero none = absurd (cc)
get-none (n ∷ ns) (suc k) none = let more : length ns ≤ k = get-none ns k none in omega (arith, more)

pub at-place : (place : ℕ) (ns : List ℕ) → at_place place 1 ns ≡ option_to_list (node_at place ns)
at-place zero ns = none-before 0 1 ns (omega arith)
at-place (suc k) ns = by (slice_get ns k) refl
  where
    by : (o : Option ℕ) → slice_get ns k ≡ o → at_place (suc k) 1 ns ≡ option_to_list o
    by None e = subst (λ (p : ℕ). at_place p 1 ns ≡ []) (omega arith) (none-behind k 1 ns (get-none ns k e))
    by (Some n) e = subst (λ (p : ℕ). at_place p 1 ns ≡ n ∷ []) (omega arith) (there k 1 ns n e)

-- the node at a place that is not before the first
pub at-behind : (place : ℕ) (ns : List ℕ) → (place ≡ 0 → ⊥) → node_at place ns ≡ slice_get ns (place - 1)
at-behind zero ns some = absurd (some refl)
at-behind (suc k) ns some = ap (slice_get ns) (omega arith)

pub get-past : (ns : List ℕ) (k : ℕ) → length ns ≤ k → slice_get ns k ≡ None
get-past [] k far = refl
get-past (n ∷ ns) zero far = absurd (omega (arith, far))
get-past (n ∷ ns) (suc k) far = get-past ns k (omega (arith, far))

-- what a whole number asks for
pub number-asks : (e : TypedExpr) (v : ℤ) (place : ℕ) → e ≡ exprs.Number v → v ≡ pos place →
    (T : Table) (L : Lets) (c : Context) → meaning T L (typed_tree_of e) c ≡ visit (done (counted place))
number-asks e v place is whole = λ T L c. view-Number T L e c v is ∙ ap (λ (z : ℤ). visit (done (Number (Whole z)))) whole

-- and `last()`
pub last-asks : (e : TypedExpr) (f : Function) (v : Vec TypedExpr Global) (es : List TypedExpr) → e ≡ exprs.Call f v → es ≡ v.items → f ≡ Last → es ≡ [] →
    (T : Table) (L : Lets) (c : Context) → meaning T L (typed_tree_of e) c ≡ visit (done (counted c.size))
last-asks e f v es is all last none = λ T L c. view-bare-Call T L e c f Last v es is all last none

-- the candidate at the place for which a step's first predicate asks
pub asked-at : (T : Table) (s : TypedStep) (n : ℕ) (first : TypedExpr) (rest : List TypedExpr) (asked : Asked) (place : ℕ) (placed : Placed) →
    (out-TypedStep s).predicates.items ≡ first ∷ rest →
    ((U : Table) (L : Lets) (c : Context) → meaning U L (typed_tree_of first) c ≡ visit (done (counted (place_for asked c.size)))) →
    place ≡ place_for asked (length (found T s n)) →
    IsPlaced place (axis_nodes T (out-TypedStep s).axis n) (found T s n) placed →
    IsAskedAt T s n placed
asked-at T s n first rest asked place placed parts asks there is = record {
  first = first;
  rest = rest;
  predicates = parts;
  on_axis = is.on_axis;
  keeps = λ L current.
      let ns = found T s n in
      gathered (place_for asked (length ns)) (λ i m. meaning T L (typed_tree_of first) (one current (length ns) i m)) (λ i m. asks T L (one current (length ns) i m)) 1 ns
      ∙ ap (λ (p : ℕ). visits (length ns) (done (at_place p 1 ns))) (sym there)
      ∙ ap (λ (ms : List ℕ). visits (length ns) (done ms)) (at-place place ns ∙ ap option_to_list (sym is.node))
      ∙ ap (λ (k : ℕ). visits k (done (option_to_list placed.node))) (sym is.passing);
}

-- a step is its candidates, filtered by the first predicate and then by the others
pub step-parted : (T : Table) (L : Lets) (s : TypedStep) (current n : ℕ) (first : TypedExpr) (rest : List TypedExpr) → (out-TypedStep s).predicates.items ≡ first ∷ rest →
    step_at T (step_meant T L s) current n
    ≡ bind (bind (candidates_of T s n) (λ ms. kept (meaning T L (typed_tree_of first)) current ms)) (λ ks. filtered (meanings T L (typed_seen rest)) current ks)
step-parted T L s current n first rest parts =
    ap (λ (ps : List TypedExpr). bind (candidates_of T s n) (λ ms. filtered (meanings T L (typed_seen ps)) current ms)) parts
    ∙ sym (bind_assoc (candidates_of T s n) (λ ms. kept (meaning T L (typed_tree_of first)) current ms) (λ ks. filtered (meanings T L (typed_seen rest)) current ks))

-- what holds of all that may be there
pub some_maps : {A : Type 0} {P Q : A → Type 0} (o : Option A) → ((x : A) → P x → Q x) → IfSome o P → IfSome o Q
some_maps None next h = tt
some_maps (Some x) next h = next x h
