-- What a loop over operands, steps or predicates has before it: the next one and the rest, or nothing.
use Rattle.std.proofs.Common.{◌≡◌, ℕ, ◌+◌, ◌<◌, ◌≤◌, List, [], ◌∷◌, length, drop, get_or, true, false, if◌then◌else◌, refl, sym, ◌∙◌, ap}
use Rattle.doc_tree.specs.Table.{Table}
use Rattle.xp_typed_tree.specs.declared.expr.TypedExpr.{TypedExpr}
use Rattle.xp_typed_tree.specs.declared.expr.Compared.{Compared, out-Compared}
use Rattle.xp_typed_tree.specs.declared.expr.Combined.{Combined, out-Combined}
use Rattle.xp_typed_tree.specs.declared.expr.TypedStep.{TypedStep, out-TypedStep}
use Rattle.xp_typed_tree.specs.TypedView.{typed_tree_of, typed_seen, compared_list_seen, combined_list_seen, typed_steps_seen}
use Rattle.xp_typed_tree.proofs.TypedViewLemmas.{of-compared, of-combined, of-step}
use Rattle.xp_outcome.specs.Evaluation.{done, given, bind}
use Rattle.xp_outcome.proofs.Outcomes.{bind_assoc, bind-done, bind-right}
use Rattle.xp_outcome.proofs.Runs.{next_item, no_item}
use Rattle.xp_values.specs.declared.values.Value.{Value}
use Rattle.xp_values.specs.declared.values.Value.TheVariants.{Truth}
use Rattle.xp_values.specs.declared.numbers.Num.{Num}
use Rattle.xp_values.specs.Numbers.{arith}
use Rattle.xp_values.specs.Conversions.{to_truth}
use Rattle.xp_meaning.specs.Conversions.{number_in, compare_in}
use Rattle.xp_meaning.specs.declared.context.Context.{Context}
use Rattle.xp_meaning.specs.Paths.{Meaning, kept, filtered, step_at, step_from, path}
use Rattle.xp_meaning.specs.Evaluation.{Lets, meaning, meanings, some_true, all_true, compared, combined, comparands_meant, combinands_meant, steps_meant}
use Rattle.xp_eval.specs.Steps.{step_meant}
use Rattle.xp_eval.specs.inner.Candidates.{candidates_of, plain_step_from}

module _ (T : Table) (L : Lets) (xs : List TypedExpr) (i : ℕ) where
  module _ (c : Context) (x : TypedExpr) (below : i < length xs) (is : x ≡ get_or xs i x) where
    pub some_true-next : some_true (meanings T L (typed_seen (drop i xs))) c
        ≡ bind (meaning T L (typed_tree_of x) c) (λ v. if to_truth v then done true else some_true (meanings T L (typed_seen (drop (i + 1) xs))) c)
    some_true-next = ap (λ ys. some_true (meanings T L (typed_seen ys)) c) (next_item xs i x below is)

    pub all_true-next : all_true (meanings T L (typed_seen (drop i xs))) c
        ≡ bind (meaning T L (typed_tree_of x) c) (λ v. if to_truth v then all_true (meanings T L (typed_seen (drop (i + 1) xs))) c else done false)
    all_true-next = ap (λ ys. all_true (meanings T L (typed_seen ys)) c) (next_item xs i x below is)

  pub some_true-end : (c : Context) → length xs ≤ i → some_true (meanings T L (typed_seen (drop i xs))) c ≡ done false
  some_true-end c past = ap (λ ys. some_true (meanings T L (typed_seen ys)) c) (no_item xs i past)

  pub all_true-end : (c : Context) → length xs ≤ i → all_true (meanings T L (typed_seen (drop i xs))) c ≡ done true
  all_true-end c past = ap (λ ys. all_true (meanings T L (typed_seen ys)) c) (no_item xs i past)

  pub filtered-next : (current : ℕ) (ns : List ℕ) (x : TypedExpr) → i < length xs → x ≡ get_or xs i x →
      filtered (meanings T L (typed_seen (drop i xs))) current ns
      ≡ bind (kept (meaning T L (typed_tree_of x)) current ns) (λ ms. filtered (meanings T L (typed_seen (drop (i + 1) xs))) current ms)
  filtered-next current ns x below is = ap (λ ys. filtered (meanings T L (typed_seen ys)) current ns) (next_item xs i x below is)

  pub filtered-end : (current : ℕ) (ns : List ℕ) → length xs ≤ i → filtered (meanings T L (typed_seen (drop i xs))) current ns ≡ done ns
  filtered-end current ns past = ap (λ ys. filtered (meanings T L (typed_seen ys)) current ns) (no_item xs i past)

module _ (T : Table) (L : Lets) (xs : List Compared) (i : ℕ) (c : Context) (v : Value) where
  pub compared-next : (x : Compared) → i < length xs → x ≡ get_or xs i x →
      compared T (comparands_meant T L (compared_list_seen (drop i xs))) v c
      ≡ bind (bind (meaning T L (typed_tree_of (out-Compared x).expr) c) (λ w. compare_in T (out-Compared x).operator v w)) (λ truth.
      compared T (comparands_meant T L (compared_list_seen (drop (i + 1) xs))) (Truth truth) c)
  compared-next x below is =
      ap (λ ys. compared T (comparands_meant T L (compared_list_seen ys)) v c) (next_item xs i x below is)
      ∙ ap (λ r. compared T (comparands_meant T L r) v c) (of-compared x (compared_list_seen (drop (i + 1) xs)))
      ∙ sym (bind_assoc (meaning T L (typed_tree_of (out-Compared x).expr) c) (λ w. compare_in T (out-Compared x).operator v w) (λ truth.
      compared T (comparands_meant T L (compared_list_seen (drop (i + 1) xs))) (Truth truth) c))

  pub compared-end : length xs ≤ i → compared T (comparands_meant T L (compared_list_seen (drop i xs))) v c ≡ done v
  compared-end past = ap (λ ys. compared T (comparands_meant T L (compared_list_seen ys)) v c) (no_item xs i past)

module _ (T : Table) (L : Lets) (xs : List Combined) (i : ℕ) (c : Context) (n : Num) where
  pub combined-next : (x : Combined) → i < length xs → x ≡ get_or xs i x →
      combined T (combinands_meant T L (combined_list_seen (drop i xs))) n c
      ≡ bind (bind (meaning T L (typed_tree_of (out-Combined x).expr) c) (number_in T)) (λ m.
      bind (given (arith (out-Combined x).operator n m)) (λ k. combined T (combinands_meant T L (combined_list_seen (drop (i + 1) xs))) k c))
  combined-next x below is =
      ap (λ ys. combined T (combinands_meant T L (combined_list_seen ys)) n c) (next_item xs i x below is)
      ∙ ap (λ r. combined T (combinands_meant T L r) n c) (of-combined x (combined_list_seen (drop (i + 1) xs)))
      ∙ sym (bind_assoc (meaning T L (typed_tree_of (out-Combined x).expr) c) (number_in T) (λ m.
      bind (given (arith (out-Combined x).operator n m)) (λ k. combined T (combinands_meant T L (combined_list_seen (drop (i + 1) xs))) k c)))

  pub combined-end : length xs ≤ i → combined T (combinands_meant T L (combined_list_seen (drop i xs))) n c ≡ done n
  combined-end past = ap (λ ys. combined T (combinands_meant T L (combined_list_seen ys)) n c) (no_item xs i past)

module _ (T : Table) (L : Lets) (xs : List TypedStep) (i current : ℕ) (ns : List ℕ) where
  pub path-next : (x : TypedStep) → i < length xs → x ≡ get_or xs i x →
      path T (steps_meant T L (typed_steps_seen (drop i xs))) current ns
      ≡ bind (step_from T (step_meant T L x) current ns) (λ ms. path T (steps_meant T L (typed_steps_seen (drop (i + 1) xs))) current ms)
  path-next x below is =
      ap (λ ys. path T (steps_meant T L (typed_steps_seen ys)) current ns) (next_item xs i x below is)
      ∙ ap (λ r. path T (steps_meant T L r) current ns) (of-step x (typed_steps_seen (drop (i + 1) xs)))

  pub path-end : length xs ≤ i → path T (steps_meant T L (typed_steps_seen (drop i xs))) current ns ≡ done ns
  path-end past = ap (λ ys. path T (steps_meant T L (typed_steps_seen ys)) current ns) (no_item xs i past)

-- a path of one step
pub path-alone : (T : Table) (L : Lets) (xs : List TypedStep) (current : ℕ) (ns : List ℕ) (x : TypedStep) → xs ≡ x ∷ [] →
    path T (steps_meant T L (typed_steps_seen xs)) current ns ≡ step_from T (step_meant T L x) current ns
path-alone T L xs current ns x all =
    ap (λ ys. path T (steps_meant T L (typed_steps_seen ys)) current ns) all
    ∙ ap (λ r. path T (steps_meant T L r) current ns) (of-step x (typed_steps_seen []))
    ∙ bind-right (step_from T (step_meant T L x) current ns)

-- a step without predicates
pub plain_meant : (T : Table) (L : Lets) (s : TypedStep) (current : ℕ) (ns : List ℕ) → (out-TypedStep s).predicates.items ≡ [] →
    step_from T (step_meant T L s) current ns ≡ plain_step_from T s ns
plain_meant T L s current ns none =
    ap (λ ps. step_from T (record { axis = (out-TypedStep s).axis; test = (out-TypedStep s).test; predicates = meanings T L (typed_seen ps) }) current ns) none

pub plain_at : (T : Table) (L : Lets) (s : TypedStep) (current n : ℕ) → (out-TypedStep s).predicates.items ≡ [] →
    step_at T (step_meant T L s) current n ≡ candidates_of T s n
plain_at T L s current n none =
    ap (λ ps. step_at T (record { axis = (out-TypedStep s).axis; test = (out-TypedStep s).test; predicates = meanings T L (typed_seen ps) }) current n) none
    ∙ bind-right (candidates_of T s n)

-- of no nodes predicates leave none
pub filtered_none : (ps : List Meaning) (current : ℕ) (ns : List ℕ) → ns ≡ [] → filtered ps current ns ≡ done ns
filtered_none [] current ns none = refl
filtered_none (p ∷ ps) current ns none =
    ap (λ ms. filtered (p ∷ ps) current ms) none
    ∙ bind-done [] (λ ms. filtered ps current ms)
    ∙ filtered_none ps current [] refl
    ∙ ap done (sym none)
