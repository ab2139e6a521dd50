-- Locality of every expression, by the parts that it has.
use Rattle.std.proofs.Common.{◌≡◌, ℕ, ◌+◌, Bool, true, false, List, [], ◌∷◌, Option, None, Some, Result, Ok, Err, refl, ap}
use Rattle.std.specs.Prelude.{flat_map}
use Rattle.doc_tree.specs.cell.Cell.{Cell}
use Rattle.doc_tree.specs.Table.{Table}
use Rattle.doc_edit_laws.specs.Agreement.{AllStay, Stays}
use Rattle.xp_typed_tree.specs.TypedTree.{TypedTree, TypedPlace, TypedSteps, Comparands, Combinands, TypedTrees, disjunction, conjunction, comparison, arithmetic, negation, union, location, selection, slot, text, whole, application, at_root, at_context, at_nodes, no_more_steps, typed_step, no_comparands, comparand, no_combinands, combinand, no_typed, typed}
use Rattle.xp_outcome.specs.Evaluation.{bind, gather, variable}
use Rattle.xp_outcome.specs.Slots.{in_slot}
use Rattle.xp_values.specs.declared.numbers.Num.{Num}
use Rattle.xp_values.specs.declared.numbers.Num.TheVariants.{Whole}
use Rattle.xp_values.specs.declared.values.EvalFault.{EvalFault}
use Rattle.xp_values.specs.declared.values.Value.{Value}
use Rattle.xp_values.specs.declared.values.Value.TheVariants.{NodeSet, Truth, Number, Chars}
use Rattle.xp_values.specs.Conversions.{to_truth}
use Rattle.xp_values.specs.Numbers.{arith}
use Rattle.xp_meaning.specs.Conversions.{as_wanted, nodes_of}
use Rattle.xp_meaning.specs.declared.context.Context.{Context}
use Rattle.xp_meaning.specs.declared.want.Want.{Want}
use Rattle.xp_meaning.specs.declared.want.Want.TheVariants.{AsItIs}
use Rattle.xp_meaning.specs.Evaluation.{Lets, all_true, combinands_meant, combined, comparands_meant, compared, meaning, meanings, slot_value, some_true, start_nodes, steps_meant, values}
use Rattle.xp_meaning.specs.Functions.{wanted}
use Rattle.xp_meaning.specs.Operators.{negated}
use Rattle.xp_meaning.specs.Paths.{Meaning, path}
use Rattle.xp_locality_laws.specs.Locality.{Changed, ContextStays}
use Rattle.xp_locality_laws.proofs.AxisLemmas.{root-stays, same-in_order}
use Rattle.xp_locality_laws.proofs.FunctionLemmas.{same-applied}
use Rattle.xp_locality_laws.proofs.PathLemmas.{AllLocal, same-filtered, same-step_from}
use Rattle.xp_locality_laws.proofs.StandLemmas.{Same, no_nodes, same-bind, same-cond, same-done, same-equal, same-fault, same-given, same-made, same-reading, same-visit, stay-append}
use Rattle.xp_locality_laws.proofs.ValueLemmas.{same-as_wanted, same-compare_in, same-number_in}

module _ (T U : Table) (touched : Cell → Bool) (L M : Lets) (changed : Changed T U touched) where
  -- operands joined by `or`, by `and`
  same-some_true : (ms ws : List Meaning) (c : Context) → AllLocal T U touched L M ms ws → ContextStays T U c →
      Same T U touched L M no_nodes (some_true ms c) (some_true ws c)
  same-some_true [] [] c h at = same-done T U touched L M no_nodes false tt
  same-some_true [] (w ∷ ws) c h at = absurd h
  same-some_true (m ∷ ms) [] c h at = absurd h
  same-some_true (m ∷ ms) (w ∷ ws) c h at =
      same-bind T U touched L M nodes_of no_nodes (m c) (w c) _ _ (h.0.at c at)
      (λ v _. same-cond T U touched L M no_nodes (to_truth v) _ _ _ _ (same-done T U touched L M no_nodes true tt) (same-some_true ms ws c h.1 at))

  pub same-all_true : (ms ws : List Meaning) (c : Context) → AllLocal T U touched L M ms ws → ContextStays T U c →
      Same T U touched L M no_nodes (all_true ms c) (all_true ws c)
  same-all_true [] [] c h at = same-done T U touched L M no_nodes true tt
  same-all_true [] (w ∷ ws) c h at = absurd h
  same-all_true (m ∷ ms) [] c h at = absurd h
  same-all_true (m ∷ ms) (w ∷ ws) c h at =
      same-bind T U touched L M nodes_of no_nodes (m c) (w c) _ _ (h.0.at c at)
      (λ v _. same-cond T U touched L M no_nodes (to_truth v) _ _ _ _ (same-all_true ms ws c h.1 at) (same-done T U touched L M no_nodes false tt))

  -- the values of arguments
  same-gathered : (want : ℕ → Want) (ms ws : List Meaning) (c : Context) (i : ℕ) → AllLocal T U touched L M ms ws → ContextStays T U c →
      Same T U touched L M (flat_map nodes_of)
      (gather (λ i m. bind (m c) (λ v. as_wanted T (want i) v)) (λ _ _ v. v ∷ []) i ms)
      (gather (λ i m. bind (m c) (λ v. as_wanted U (want i) v)) (λ _ _ v. v ∷ []) i ws)
  same-gathered want [] [] c i h at = same-done T U touched L M (flat_map nodes_of) [] tt
  same-gathered want [] (w ∷ ws) c i h at = absurd h
  same-gathered want (m ∷ ms) [] c i h at = absurd h
  same-gathered want (m ∷ ms) (w ∷ ws) c i h at =
      same-bind T U touched L M nodes_of (flat_map nodes_of) (bind (m c) (λ v. as_wanted T (want i) v)) (bind (w c) (λ v. as_wanted U (want i) v)) _ _
      (same-bind T U touched L M nodes_of nodes_of (m c) (w c) _ _ (h.0.at c at) (λ v stay. same-as_wanted T U touched L M changed (want i) v stay))
      (λ v stay. same-made T U touched L M (flat_map nodes_of) (flat_map nodes_of) _ _ (λ rest. v ∷ rest) (λ rest. v ∷ rest)
      (same-gathered want ms ws c (i + 1) h.1 at) (λ rest more. (refl, stay-append T U (nodes_of v) (flat_map nodes_of rest) stay more)))

  same-values : (want : ℕ → Want) (ms ws : List Meaning) (c : Context) → AllLocal T U touched L M ms ws → ContextStays T U c →
      Same T U touched L M (flat_map nodes_of) (values T want ms c) (values U want ws c)
  same-values want ms ws c h at = same-gathered want ms ws c 0 h at

  -- what a slot gives
  same-slot : (o : Option (Result Value EvalFault)) → ((v : Value) → o ≡ Some (Ok v) → AllStay T U (nodes_of v)) →
      Same T U touched L M nodes_of (slot_value o) (slot_value o)
  same-slot None h = same-done T U touched L M nodes_of (NodeSet []) tt
  same-slot (Some (Ok v)) h = same-done T U touched L M nodes_of v (h v refl)
  same-slot (Some (Err f)) h = same-fault T U touched L M nodes_of f

  mutual
    pub same-meaning : (t : TypedTree) (c : Context) → ContextStays T U c → Same T U touched L M nodes_of (meaning T L t c) (meaning U M t c)
    same-meaning (disjunction ts) c at =
        same-visit T U touched L M nodes_of _ _ (same-made T U touched L M no_nodes nodes_of _ _ (λ b. Truth b) (λ b. Truth b)
        (same-some_true (meanings T L ts) (meanings U M ts) c (locals ts) at) (λ b _. (refl, tt)))
    same-meaning (conjunction ts) c at =
        same-visit T U touched L M nodes_of _ _ (same-made T U touched L M no_nodes nodes_of _ _ (λ b. Truth b) (λ b. Truth b)
        (same-all_true (meanings T L ts) (meanings U M ts) c (locals ts) at) (λ b _. (refl, tt)))
    same-meaning (comparison first rest) c at =
        same-visit T U touched L M nodes_of _ _ (same-bind T U touched L M nodes_of nodes_of _ _ _ _ (same-meaning first c at) (λ v stay. same-compared rest v c at stay))
    same-meaning (arithmetic first rest) c at =
        same-visit T U touched L M nodes_of _ _ (same-bind T U touched L M nodes_of nodes_of _ _ _ _ (same-meaning first c at)
        (λ v stay. same-bind T U touched L M no_nodes nodes_of _ _ _ _ (same-number_in T U touched L M changed v stay)
        (λ x _. same-made T U touched L M no_nodes nodes_of _ _ (λ y. Number y) (λ y. Number y) (same-combined rest x c at) (λ y _. (refl, tt)))))
    same-meaning (negation signs operand) c at =
        same-visit T U touched L M nodes_of _ _ (same-bind T U touched L M nodes_of nodes_of _ _ _ _ (same-meaning operand c at)
        (λ v stay. same-bind T U touched L M no_nodes nodes_of _ _ _ _ (same-number_in T U touched L M changed v stay)
        (λ x _. same-made T U touched L M no_nodes nodes_of _ _ (λ y. Number y) (λ y. Number y)
        (same-given T U touched L M no_nodes (negated signs x) (λ _ _. tt)) (λ y _. (refl, tt)))))
    same-meaning (union ts) c at =
        same-visit T U touched L M nodes_of _ _ (same-made T U touched L M (flat_map nodes_of) nodes_of _ _ _ _
        (same-values (λ _. AsItIs) (meanings T L ts) (meanings U M ts) c (locals ts) at)
        (λ vs stay. let s = same-in_order T U touched L M changed (flat_map nodes_of vs) stay in (ap (λ ns. NodeSet ns) s.0, s.1)))
    same-meaning (location place steps) c at =
        same-visit T U touched L M nodes_of _ _ (same-bind T U touched L M (λ ns. ns) nodes_of _ _ _ _ (same-start place c at)
        (λ ns stay. same-made T U touched L M (λ ms. ms) nodes_of _ _ (λ ms. NodeSet ms) (λ ms. NodeSet ms) (same-path steps c.current ns at.current stay) (λ ms more. (refl, more))))
    same-meaning (selection base predicates) c at =
        same-visit T U touched L M nodes_of _ _ (same-bind T U touched L M nodes_of nodes_of _ _ _ _ (same-meaning base c at)
        (λ v stay. same-made T U touched L M (λ ms. ms) nodes_of _ _ (λ ms. NodeSet ms) (λ ms. NodeSet ms)
        (same-filtered T U touched L M changed (meanings T L predicates) (meanings U M predicates) c.current (nodes_of v) (locals predicates) at.current stay) (λ ms more. (refl, more))))
    same-meaning (slot place type) c at =
        same-visit T U touched L M nodes_of _ _ (same-reading T U touched L M nodes_of (variable place) _ _
        (λ k. same-equal T U touched L M nodes_of _ _ _ (ap slot_value k.0) (same-slot (in_slot L place) k.1)))
    same-meaning (text characters) c at = same-visit T U touched L M nodes_of _ _ (same-done T U touched L M nodes_of (Chars characters) tt)
    same-meaning (whole number) c at = same-visit T U touched L M nodes_of _ _ (same-done T U touched L M nodes_of (Number (Whole number)) tt)
    same-meaning (application f ts) c at =
        same-visit T U touched L M nodes_of _ _ (same-bind T U touched L M (flat_map nodes_of) nodes_of _ _ _ _
        (same-values (wanted f) (meanings T L ts) (meanings U M ts) c (locals ts) at)
        (λ vs stay. same-applied T U touched L M changed f c vs at stay))

    same-start : (place : TypedPlace) (c : Context) → ContextStays T U c → Same T U touched L M (λ ns. ns) (start_nodes T L place c) (start_nodes U M place c)
    same-start at_root c at = same-done T U touched L M (λ ns. ns) (0 ∷ []) (root-stays T U touched L M changed, tt)
    same-start at_context c at = same-done T U touched L M (λ ns. ns) (c.node ∷ []) (at.node, tt)
    same-start (at_nodes base) c at =
        same-made T U touched L M nodes_of (λ ns. ns) _ _ nodes_of nodes_of (same-meaning base c at) (λ v stay. (refl, stay))

    same-path : (steps : TypedSteps) (current : ℕ) (ns : List ℕ) → Stays T U current → AllStay T U ns →
        Same T U touched L M (λ ms. ms) (path T (steps_meant T L steps) current ns) (path U (steps_meant U M steps) current ns)
    same-path no_more_steps current ns here stay = same-done T U touched L M (λ ms. ms) ns stay
    same-path (typed_step axis node_test predicates steps) current ns here stay =
        same-bind T U touched L M (λ ms. ms) (λ ms. ms) _ _ _ _
        (same-step_from T U touched L M changed axis node_test (meanings T L predicates) (meanings U M predicates) (locals predicates) current ns here stay)
        (λ ms more. same-path steps current ms here more)

    same-compared : (rest : Comparands) (v : Value) (c : Context) → ContextStays T U c → AllStay T U (nodes_of v) →
        Same T U touched L M nodes_of (compared T (comparands_meant T L rest) v c) (compared U (comparands_meant U M rest) v c)
    same-compared no_comparands v c at stay = same-done T U touched L M nodes_of v stay
    same-compared (comparand operator operand rest) v c at stay =
        same-bind T U touched L M nodes_of nodes_of _ _ _ _ (same-meaning operand c at)
        (λ w more. same-bind T U touched L M no_nodes nodes_of _ _ _ _ (same-compare_in T U touched L M changed operator v w stay more)
        (λ truth _. same-compared rest (Truth truth) c at tt))

    same-combined : (rest : Combinands) (x : Num) (c : Context) → ContextStays T U c →
        Same T U touched L M no_nodes (combined T (combinands_meant T L rest) x c) (combined U (combinands_meant U M rest) x c)
    same-combined no_combinands x c at = same-done T U touched L M no_nodes x tt
    same-combined (combinand operator operand rest) x c at =
        same-bind T U touched L M nodes_of no_nodes _ _ _ _ (same-meaning operand c at)
        (λ w stay. same-bind T U touched L M no_nodes no_nodes _ _ _ _ (same-number_in T U touched L M changed w stay)
        (λ y _. same-bind T U touched L M no_nodes no_nodes _ _ _ _ (same-given T U touched L M no_nodes (arith operator x y) (λ _ _. tt))
        (λ z _. same-combined rest z c at)))

    pub locals : (ts : TypedTrees) → AllLocal T U touched L M (meanings T L ts) (meanings U M ts)
    locals no_typed = tt
    locals (typed t ts) = (record { at = same-meaning t }, locals ts)
