-- What a predicate that is a number keeps.
use Rattle.std.proofs.Common.{◌≡◌, ℕ, zero, suc, pos, ◌+◌, ◌<◌, Bool, true, false, cond, List, [], ◌∷◌, ◌++◌, length, filter, refl, ◌∙◌, ap, Ok, arith, slice_get, option_to_list}
use Rattle.std.specs.Prelude.{unsigned_abs}
use Rattle.std.specs.Bool.{Decides}
use Rattle.std.specs.Ordering.{int_eq}
use Rattle.std.proofs.lemmas.Bool.Decides.{Decides-int_eq}
use Rattle.doc_tree.specs.declared.axes.Axis.{Axis}
use Rattle.doc_tree.specs.declared.axes.NodeTest.{NodeTest}
use Rattle.doc_tree.specs.Table.{Table}
use Rattle.doc_axes.specs.Axes.{axis_nodes}
use Rattle.doc_axes.specs.NodeTests.{passes}
use Rattle.xp_outcome.specs.Evaluation.{Evaluation, done, bind, behind, visit, visits, all_reading, gather}
use Rattle.xp_values.specs.declared.values.Value.{Value}
use Rattle.xp_values.specs.declared.values.Value.TheVariants.{Number}
use Rattle.xp_values.specs.declared.values.EvalFault.{EvalFault}
use Rattle.xp_values.specs.declared.numbers.Num.TheVariants.{Whole}
use Rattle.xp_typed_tree.specs.TypedTree.{whole}
use Rattle.xp_meaning.specs.Paths.{chosen, kept, placed, candidates, filtered}
use Rattle.xp_meaning.specs.Evaluation.{Lets, meaning}
use Rattle.xp_meaning.specs.Laws.{NumberIsPosition, step_with}
use Rattle.xp_meaning.proofs.Answers.{answer_then}

-- what is chosen of some nodes by one value for all of them
abbrev chosen_from : Value → ℕ → List ℕ → List ℕ
chosen_from w i [] = []
chosen_from w i (n ∷ ns) = chosen i n w ++ chosen_from w (i + 1) ns

-- a predicate that has the same value at each node
module _ (act : ℕ → ℕ → Evaluation EvalFault Value) (w : Value) (always : (i n : ℕ) → (act i n).answer ≡ Ok w) where
  gathered_answer : (i : ℕ) (ns : List ℕ) → (gather act chosen i ns).answer ≡ Ok (chosen_from w i ns)
  unfolding done
  gathered_answer i [] = refl
  gathered_answer i (n ∷ ns) =
      answer_then (act i n) (λ v. bind (gather act chosen (i + 1) ns) (λ rest. done (chosen i n v ++ rest))) w (always i n)
      ∙ answer_then (gather act chosen (i + 1) ns) (λ rest. done (chosen i n w ++ rest)) (chosen_from w (i + 1) ns) (gathered_answer (i + 1) ns)

same_int : (p : ℕ) → int_eq (pos p) (pos p) ≡ true
same_int p = (Decides-int_eq (pos p) (pos p)).1 refl

other_int : (p i : ℕ) → (p ≡ i → ⊥) → int_eq (pos p) (pos i) ≡ false
other_int p i apart = by (int_eq (pos p) (pos i)) (Decides-int_eq (pos p) (pos i))
  where
    by : (b : Bool) → Decides b (pos p ≡ pos i) → b ≡ false
    by true d = absurd (apart (ap unsigned_abs (d.0 refl)))
    by false d = refl

abbrev position_value : ℕ → Value
position_value p = Number (Whole (pos p))

-- at its own position the number chooses, at others it doesn't
here : (p n : ℕ) → chosen p n (position_value p) ≡ n ∷ []
here p n = ap (λ b. cond b (n ∷ []) []) (same_int p)

elsewhere : (p i n : ℕ) → (p ≡ i → ⊥) → chosen i n (position_value p) ≡ []
elsewhere p i n apart = ap (λ b. cond b (n ∷ []) []) (other_int p i apart)

past : (p i : ℕ) (ns : List ℕ) → p < i → chosen_from (position_value p) i ns ≡ []
past p i [] below = refl
past p i (n ∷ ns) below =
    ap (λ xs. xs ++ chosen_from (position_value p) (i + 1) ns) (elsewhere p i n (λ e. omega (arith, e, below)))
    ∙ past p (i + 1) ns (omega (arith, below))

at_place : (p i j : ℕ) (ns : List ℕ) → p ≡ i + j → chosen_from (position_value p) i ns ≡ option_to_list (slice_get ns j)
at_place p i j [] is = refl
at_place p i zero (n ∷ ns) is =
    let same : i ≡ p = omega (arith, is) in
    ap (λ xs. xs ++ chosen_from (position_value p) (i + 1) ns) (ap (λ k. chosen k n (position_value p)) same ∙ here p n)
    ∙ ap (λ xs. n ∷ xs) (past p (i + 1) ns (omega (arith, is)))
at_place p i (suc j) (n ∷ ns) is =
    ap (λ xs. xs ++ chosen_from (position_value p) (i + 1) ns) (elsewhere p i n (λ e. omega (arith, is, e)))
    ∙ at_place p (i + 1) j ns (omega (arith, is))

-- a predicate `[k]`
kept_by_number : (T : Table) (L : Lets) (k current : ℕ) (ns : List ℕ) →
    (kept (meaning T L (whole (pos (suc k)))) current ns).answer ≡ Ok (option_to_list (slice_get ns k))
unfolding visit behind done
kept_by_number T L k current ns =
    gathered_answer (λ position n. meaning T L (whole (pos (suc k))) (placed current (length ns) position n)) (position_value (suc k)) (λ i n. refl) 1 ns
    ∙ ap Ok (at_place (suc k) 1 k ns (omega arith))

pub candidates-answer : (T : Table) (axis : Axis) (node_test : NodeTest) (n : ℕ) →
    (candidates T axis node_test n).answer ≡ Ok (filter (passes T axis node_test) (axis_nodes T axis n))
unfolding candidates all_reading visits behind done
candidates-answer T axis node_test n = refl

pub number_is_position : NumberIsPosition
unfolding done
number_is_position T L axis node_test k current n =
    let s = step_with T L axis node_test (whole (pos (suc k))) in
    let found : List ℕ = filter (passes T axis node_test) (axis_nodes T axis n) in
    answer_then (candidates T axis node_test n) (λ ms. filtered s.predicates current ms) found (candidates-answer T axis node_test n)
    ∙ answer_then (kept (meaning T L (whole (pos (suc k)))) current found) (λ ms. filtered [] current ms) (option_to_list (slice_get found k))
    (kept_by_number T L k current found)
