-- What every expression gives where the nodes of a tree are renumbered, by the parts that it has.
use Rattle.std.proofs.Common.{◌≡◌, ℕ, ◌+◌, zero, suc, Bool, true, false, cond, List, [], ◌∷◌, ◌++◌, map, Option, None, Some, Result, Ok, Err, refl, sym, ap, ap₂, ◌∙◌}
use Rattle.std.proofs.lemmas.List.{map-append}
use Rattle.std.specs.Prelude.{flat_map, option_map}
use Rattle.doc_tree.specs.Table.{Table}
use Rattle.doc_axes.specs.Sets.{in_order}
use Rattle.tree_iso.specs.Renumbering.{Hangs, Renumbers, RenumberedTreesHang}
use Rattle.xp_typed_tree.specs.TypedTree.{TypedTree, TypedPlace, TypedSteps, Comparands, Combinands, TypedTrees, disjunction, conjunction, comparison, arithmetic, negation, union, location, selection, slot, text, whole, application, at_root, at_context, at_nodes, no_more_steps, typed_step, no_comparands, comparand, no_combinands, combinand, no_typed, typed}
use Rattle.xp_outcome.specs.Evaluation.{bind, done, gather, variable}
use Rattle.xp_outcome.specs.Slots.{in_slot}
use Rattle.xp_values.specs.declared.numbers.Num.{Num}
use Rattle.xp_values.specs.declared.numbers.Num.TheVariants.{Whole}
use Rattle.xp_values.specs.declared.values.EvalFault.{EvalFault}
use Rattle.xp_values.specs.declared.values.Value.{Value}
use Rattle.xp_values.specs.declared.values.Value.TheVariants.{NodeSet, Truth, Number, Chars}
use Rattle.xp_values.specs.Conversions.{to_truth}
use Rattle.xp_values.specs.Numbers.{arith}
use Rattle.xp_meaning.specs.Conversions.{as_wanted, nodes_of}
use Rattle.xp_meaning.specs.declared.context.Context.{Context}
use Rattle.xp_meaning.specs.declared.want.Want.{Want}
use Rattle.xp_meaning.specs.declared.want.Want.TheVariants.{AsItIs}
use Rattle.xp_meaning.specs.Evaluation.{Lets, all_true, combinands_meant, combined, comparands_meant, compared, meaning, meanings, slot_value, some_true, start_nodes, steps_meant, values}
use Rattle.xp_meaning.specs.Functions.{wanted}
use Rattle.xp_meaning.specs.Operators.{negated}
use Rattle.xp_meaning.specs.Paths.{Meaning, filtered, path}
use Rattle.xp_iso_laws.specs.Moved.{moved_context, moved_lets, moved_outcome, moved_value}
use Rattle.xp_iso_laws.specs.Moves.{ExpressionsMove, Moves, PredicatesMove, StepsMove}
use Rattle.xp_iso_laws.proofs.AxisLemmas.{in_order-moved}
use Rattle.xp_iso_laws.proofs.FunctionLemmas.{moves-applied}
use Rattle.xp_iso_laws.proofs.MoveLemmas.{moves-bind, moves-cond, moves-done, moves-equal, moves-fault, moves-made, moves-reading, moves-visit}
use Rattle.xp_iso_laws.proofs.PathLemmas.{AllMove, moves-filtered, moves-step_at, moves-step_from}
use Rattle.xp_iso_laws.proofs.ValueLemmas.{as_is, moves-as_wanted, moves-compare_in, moves-number_in, nodes-moved, plain_given, truth-moved}

-- a slot of lets
pub slot-moved : (f : ℕ → ℕ) (L : Lets) (k : ℕ) → in_slot (moved_lets f L) k ≡ option_map (moved_outcome f) (in_slot L k)
slot-moved f [] k = refl
slot-moved f (o ∷ L) zero = refl
slot-moved f (o ∷ L) (suc k) = slot-moved f L k

-- the nodes of some values
all_nodes-moved : (f : ℕ → ℕ) (vs : List Value) → flat_map nodes_of (map (moved_value f) vs) ≡ map f (flat_map nodes_of vs)
all_nodes-moved f [] = refl
all_nodes-moved f (v ∷ vs) =
    ap₂ (λ (x y : List ℕ). x ++ y) (nodes-moved f v) (all_nodes-moved f vs) ∙ sym (map-append f (nodes_of v) (flat_map nodes_of vs))

module _ (f : ℕ → ℕ) where
  -- operands joined by `or`, by `and`
  moves-some_true : (ms ws : List Meaning) (c : Context) → AllMove f ms ws → Moves f {A = Bool} as_is (some_true ms c) (some_true ws (moved_context f c))
  moves-some_true [] [] c h = moves-done f as_is false false refl
  moves-some_true [] (w ∷ ws) c h = absurd h
  moves-some_true (m ∷ ms) [] c h = absurd h
  moves-some_true (m ∷ ms) (w ∷ ws) c h =
      moves-bind f (moved_value f) as_is (m c) (w (moved_context f c))
      (λ v. cond (to_truth v) (done true) (some_true ms c)) (λ v. cond (to_truth v) (done true) (some_true ws (moved_context f c))) (h.0.at c)
      (λ v. moves-equal f as_is (cond (to_truth v) (done true) (some_true ms c)) (cond (to_truth v) (done true) (some_true ws (moved_context f c)))
      (cond (to_truth (moved_value f v)) (done true) (some_true ws (moved_context f c)))
      (ap (λ b. cond b (done true) (some_true ws (moved_context f c))) (sym (truth-moved f v)))
      (moves-cond f as_is (to_truth v) (done true) (some_true ms c) (done true) (some_true ws (moved_context f c)) (moves-done f as_is true true refl) (moves-some_true ms ws c h.1)))

  pub moves-all_true : (ms ws : List Meaning) (c : Context) → AllMove f ms ws → Moves f {A = Bool} as_is (all_true ms c) (all_true ws (moved_context f c))
  moves-all_true [] [] c h = moves-done f as_is true true refl
  moves-all_true [] (w ∷ ws) c h = absurd h
  moves-all_true (m ∷ ms) [] c h = absurd h
  moves-all_true (m ∷ ms) (w ∷ ws) c h =
      moves-bind f (moved_value f) as_is (m c) (w (moved_context f c))
      (λ v. cond (to_truth v) (all_true ms c) (done false)) (λ v. cond (to_truth v) (all_true ws (moved_context f c)) (done false)) (h.0.at c)
      (λ v. moves-equal f as_is (cond (to_truth v) (all_true ms c) (done false)) (cond (to_truth v) (all_true ws (moved_context f c)) (done false))
      (cond (to_truth (moved_value f v)) (all_true ws (moved_context f c)) (done false))
      (ap (λ b. cond b (all_true ws (moved_context f c)) (done false)) (sym (truth-moved f v)))
      (moves-cond f as_is (to_truth v) (all_true ms c) (done false) (all_true ws (moved_context f c)) (done false) (moves-all_true ms ws c h.1) (moves-done f as_is false false refl)))

  -- what a slot gives
  moves-slot : (o : Option (Result Value EvalFault)) → Moves f (moved_value f) (slot_value o) (slot_value (option_map (moved_outcome f) o))
  moves-slot None = moves-done f (moved_value f) (NodeSet []) (NodeSet []) refl
  moves-slot (Some (Ok v)) = moves-done f (moved_value f) v (moved_value f v) refl
  moves-slot (Some (Err x)) = moves-fault f (moved_value f) x

module _ (f : ℕ → ℕ) (T U : Table) (r : Renumbers f T U) (h : Hangs f T U) where
  -- the values of arguments
  moves-gathered : (want : ℕ → Want) (ms ws : List Meaning) (c : Context) (i : ℕ) → AllMove f ms ws →
      Moves f (map (moved_value f))
      (gather (λ i m. bind (m c) (λ v. as_wanted T (want i) v)) (λ _ _ v. v ∷ []) i ms)
      (gather (λ i m. bind (m (moved_context f c)) (λ v. as_wanted U (want i) v)) (λ _ _ v. v ∷ []) i ws)
  moves-gathered want [] [] c i all = moves-done f (map (moved_value f)) [] [] refl
  moves-gathered want [] (w ∷ ws) c i all = absurd all
  moves-gathered want (m ∷ ms) [] c i all = absurd all
  moves-gathered want (m ∷ ms) (w ∷ ws) c i all =
      moves-bind f (moved_value f) (map (moved_value f)) (bind (m c) (λ v. as_wanted T (want i) v)) (bind (w (moved_context f c)) (λ v. as_wanted U (want i) v)) _ _
      (moves-bind f (moved_value f) (moved_value f) (m c) (w (moved_context f c)) (λ v. as_wanted T (want i) v) (λ v. as_wanted U (want i) v) (all.0.at c) (λ v. moves-as_wanted f T U r h (want i) v))
      (λ v. moves-made f (map (moved_value f)) (map (moved_value f)) _ _ (λ rest. v ∷ rest) (λ rest. moved_value f v ∷ rest)
      (moves-gathered want ms ws c (i + 1) all.1) (λ rest. refl))

  moves-values : (want : ℕ → Want) (ms ws : List Meaning) (c : Context) → AllMove f ms ws → Moves f (map (moved_value f)) (values T want ms c) (values U want ws (moved_context f c))
  moves-values want ms ws c all = moves-gathered want ms ws c 0 all

  module _ (L : Lets) where
    abbrev M : Lets
    M = moved_lets f L

    mutual
      pub moves-meaning : (t : TypedTree) (c : Context) → Moves f (moved_value f) (meaning T L t c) (meaning U M t (moved_context f c))
      moves-meaning (disjunction ts) c =
          moves-visit f (moved_value f) _ _ (moves-made f as_is (moved_value f) _ _ (λ b. Truth b) (λ b. Truth b)
          (moves-some_true f (meanings T L ts) (meanings U M ts) c (all-move ts)) (λ b. refl))
      moves-meaning (conjunction ts) c =
          moves-visit f (moved_value f) _ _ (moves-made f as_is (moved_value f) _ _ (λ b. Truth b) (λ b. Truth b)
          (moves-all_true f (meanings T L ts) (meanings U M ts) c (all-move ts)) (λ b. refl))
      moves-meaning (comparison first rest) c =
          moves-visit f (moved_value f) _ _ (moves-bind f (moved_value f) (moved_value f) _ _ _ _ (moves-meaning first c) (λ v. moves-compared rest v c))
      moves-meaning (arithmetic first rest) c =
          moves-visit f (moved_value f) _ _ (moves-bind f (moved_value f) (moved_value f) _ _ _ _ (moves-meaning first c)
          (λ v. moves-bind f as_is (moved_value f) _ _ _ _ (moves-number_in f T U r h v)
          (λ x. moves-made f as_is (moved_value f) _ _ (λ y. Number y) (λ y. Number y) (moves-combined rest x c) (λ y. refl))))
      moves-meaning (negation signs operand) c =
          moves-visit f (moved_value f) _ _ (moves-bind f (moved_value f) (moved_value f) _ _ _ _ (moves-meaning operand c)
          (λ v. moves-bind f as_is (moved_value f) _ _ _ _ (moves-number_in f T U r h v)
          (λ x. moves-made f as_is (moved_value f) _ _ (λ y. Number y) (λ y. Number y)
          (plain_given f T U r h (negated signs x) (negated signs x) refl) (λ y. refl))))
      moves-meaning (union ts) c =
          moves-visit f (moved_value f) _ _ (moves-made f (map (moved_value f)) (moved_value f) _ _
          (λ vs. NodeSet (in_order T (flat_map nodes_of vs))) (λ vs. NodeSet (in_order U (flat_map nodes_of vs)))
          (moves-values (λ _. AsItIs) (meanings T L ts) (meanings U M ts) c (all-move ts))
          (λ vs. ap (λ ns. NodeSet ns) (ap (in_order U) (all_nodes-moved f vs) ∙ in_order-moved f T U r h (flat_map nodes_of vs))))
      moves-meaning (location place steps) c =
          moves-visit f (moved_value f) _ _ (moves-bind f (map f) (moved_value f) _ _ _ _ (moves-start place c)
          (λ ns. moves-made f (map f) (moved_value f) _ _ (λ ms. NodeSet ms) (λ ms. NodeSet ms) (moves-path steps c.current ns) (λ ms. refl)))
      moves-meaning (selection base predicates) c =
          moves-visit f (moved_value f) _ _ (moves-bind f (moved_value f) (moved_value f) _ _ _ _ (moves-meaning base c)
          (λ v. moves-made f (map f) (moved_value f) _ _ (λ ms. NodeSet ms) (λ ms. NodeSet ms)
          (moves-equal f (map f) (filtered (meanings T L predicates) c.current (nodes_of v)) (filtered (meanings U M predicates) (f c.current) (map f (nodes_of v)))
          (filtered (meanings U M predicates) (f c.current) (nodes_of (moved_value f v))) (ap (filtered (meanings U M predicates) (f c.current)) (sym (nodes-moved f v)))
          (moves-filtered f (meanings T L predicates) (meanings U M predicates) c.current (nodes_of v) (all-move predicates))) (λ ms. refl)))
      moves-meaning (slot place type) c =
          moves-visit f (moved_value f) _ _ (moves-reading f (moved_value f) (variable place) (variable place) _ _ refl
          (moves-equal f (moved_value f) (slot_value (in_slot L place)) (slot_value (option_map (moved_outcome f) (in_slot L place))) (slot_value (in_slot M place))
          (ap slot_value (sym (slot-moved f L place))) (moves-slot f (in_slot L place))))
      moves-meaning (text characters) c = moves-visit f (moved_value f) _ _ (moves-done f (moved_value f) (Chars characters) (Chars characters) refl)
      moves-meaning (whole number) c = moves-visit f (moved_value f) _ _ (moves-done f (moved_value f) (Number (Whole number)) (Number (Whole number)) refl)
      moves-meaning (application g ts) c =
          moves-visit f (moved_value f) _ _ (moves-bind f (map (moved_value f)) (moved_value f) _ _ _ _
          (moves-values (wanted g) (meanings T L ts) (meanings U M ts) c (all-move ts))
          (λ vs. moves-applied f T U r h g c vs))

      moves-start : (place : TypedPlace) (c : Context) → Moves f (map f) (start_nodes T L place c) (start_nodes U M place (moved_context f c))
      moves-start at_root c = moves-done f (map f) (0 ∷ []) (0 ∷ []) (ap (λ n. n ∷ []) (sym h.root))
      moves-start at_context c = moves-done f (map f) (c.node ∷ []) (f c.node ∷ []) refl
      moves-start (at_nodes base) c = moves-made f (moved_value f) (map f) _ _ nodes_of nodes_of (moves-meaning base c) (λ v. nodes-moved f v)

      moves-path : (steps : TypedSteps) (current : ℕ) (ns : List ℕ) →
          Moves f (map f) (path T (steps_meant T L steps) current ns) (path U (steps_meant U M steps) (f current) (map f ns))
      moves-path no_more_steps current ns = moves-done f (map f) ns (map f ns) refl
      moves-path (typed_step axis node_test predicates steps) current ns =
          moves-bind f (map f) (map f) _ _ _ _
          (moves-step_from f T U r h axis node_test (meanings T L predicates) (meanings U M predicates) (all-move predicates) current ns)
          (λ ms. moves-path steps current ms)

      moves-compared : (rest : Comparands) (v : Value) (c : Context) →
          Moves f (moved_value f) (compared T (comparands_meant T L rest) v c) (compared U (comparands_meant U M rest) (moved_value f v) (moved_context f c))
      moves-compared no_comparands v c = moves-done f (moved_value f) v (moved_value f v) refl
      moves-compared (comparand operator operand rest) v c =
          moves-bind f (moved_value f) (moved_value f) _ _ _ _ (moves-meaning operand c)
          (λ w. moves-bind f as_is (moved_value f) _ _ _ _ (moves-compare_in f T U r h operator v w)
          (λ truth. moves-compared rest (Truth truth) c))

      moves-combined : (rest : Combinands) (x : Num) (c : Context) →
          Moves f {A = Num} as_is (combined T (combinands_meant T L rest) x c) (combined U (combinands_meant U M rest) x (moved_context f c))
      moves-combined no_combinands x c = moves-done f as_is x x refl
      moves-combined (combinand operator operand rest) x c =
          moves-bind f (moved_value f) as_is _ _ _ _ (moves-meaning operand c)
          (λ w. moves-bind f as_is as_is _ _ _ _ (moves-number_in f T U r h w)
          (λ y. moves-bind f as_is as_is _ _ _ _ (plain_given f T U r h (arith operator x y) (arith operator x y) refl)
          (λ z. moves-combined rest z c)))

      pub all-move : (ts : TypedTrees) → AllMove f (meanings T L ts) (meanings U M ts)
      all-move no_typed = tt
      all-move (typed t ts) = (record { at = moves-meaning t }, all-move ts)

pub expressions-move : RenumberedTreesHang → ExpressionsMove
expressions-move hang f T U L t c one other r = moves-meaning f T U r (hang f T U one other r) L t c

pub steps-move : RenumberedTreesHang → StepsMove
steps-move hang f T U L axis node_test predicates current n one other r =
    let h : Hangs f T U = hang f T U one other r in
    moves-step_at f T U r h axis node_test (meanings T L predicates) (meanings U (moved_lets f L) predicates) (all-move f T U r h L predicates) current n

pub predicates-move : RenumberedTreesHang → PredicatesMove
predicates-move hang f T U L predicates c one other r =
    moves-all_true f (meanings T L predicates) (meanings U (moved_lets f L) predicates) c (all-move f T U r (hang f T U one other r) L predicates)
