-- What doesn't ask for the position of the context node is the same at each.
use Rattle.std.proofs.Common.{◌≡◌, ℕ, ◌+◌, Bool, true, false, ◌||◌, List, [], ◌∷◌, ◌++◌, refl, ◌∙◌, ap, true≢false}
use Rattle.std.specs.Prelude.{flat_map, if◌then◌else◌}
use Rattle.doc_tree.specs.QNames.{written_in}
use Rattle.doc_tree.specs.Table.{Table}
use Rattle.doc_axes.specs.Sets.{in_order}
use Rattle.xp_tree.specs.declared.operators.Comparison.{Comparison}
use Rattle.xp_tree.specs.declared.operators.ArithOp.{ArithOp}
use Rattle.xp_typed_tree.specs.declared.function.Function.{Function}
use Rattle.xp_typed_tree.specs.declared.function.Function.TheVariants as functions
use Rattle.xp_typed_tree.specs.TypedTree.{TypedTree, TypedPlace, Comparands, Combinands, TypedTrees, disjunction, conjunction, comparison, arithmetic, negation, union, location, selection, slot, text, whole, application, at_root, at_context, at_nodes, no_comparands, comparand, no_combinands, combinand, no_typed, typed}
use Rattle.xp_outcome.specs.Evaluation.{Evaluation, done, given, bind, visit, gather}
use Rattle.xp_outcome.proofs.Outcomes.{bind_alike}
use Rattle.xp_values.specs.declared.values.Value.{Value}
use Rattle.xp_values.specs.declared.values.Value.TheVariants.{NodeSet, Truth, Number, Chars}
use Rattle.xp_values.specs.declared.values.EvalFault.{EvalFault}
use Rattle.xp_values.specs.declared.numbers.Num.{Num}
use Rattle.xp_values.specs.Numbers.{arith}
use Rattle.xp_values.specs.Texts.{string_length, normalize_space}
use Rattle.xp_values.specs.Conversions.{to_truth}
use Rattle.xp_meaning.specs.declared.want.Want.{Want}
use Rattle.xp_meaning.specs.declared.want.Want.TheVariants.{AsItIs}
use Rattle.xp_meaning.specs.Conversions.{nodes_of, number_in, compare_in, as_wanted}
use Rattle.xp_meaning.specs.declared.context.Context.{Context}
use Rattle.xp_meaning.specs.Operators.{negated}
use Rattle.xp_meaning.specs.Names.{local_in, of_name, uri_in}
use Rattle.xp_meaning.specs.Paths.{Meaning, filtered, path, placed}
use Rattle.xp_meaning.specs.Functions.{applied, wanted, named_node, text_or_own, number_or_own, as_text, as_number}
use Rattle.xp_meaning.specs.Evaluation.{Lets, Operand, meaning, meanings, some_true, all_true, compared, combined, values, start_nodes, steps_meant, comparands_meant, combinands_meant}
use Rattle.xslt_match.specs.Positional.{asks_position, place_asks, comparands_ask, combinands_ask, some_asks, tells_position}

pub none_of : (a b : Bool) → (a || b) ≡ false → (a ≡ false) × (b ≡ false)
none_of true b h = absurd (true≢false h)
none_of false b h = (refl, h)

-- one evaluation after another
binds : {F A B : Type 0} (m k : Evaluation F A) (f g : A → Evaluation F B) → m ≡ k → ((v : A) → f v ≡ g v) → bind m f ≡ bind k g
binds m k f g is all = ap (λ o. bind o f) is ∙ bind_alike k f g all

module _ (T : Table) (L : Lets) (current node size position others place : ℕ) where
  abbrev here : Context
  here = placed current size position node

  abbrev there : Context
  there = placed current others place node

  -- each gives the same here and there
  abbrev Same : List Meaning → Type 0
  Same [] = Unit {0}
  Same (m ∷ ms) = (m here ≡ m there) × Same ms

  abbrev SameOperands : {O : Type 0} → List (Operand O) → Type 0
  SameOperands [] = Unit {0}
  SameOperands (m ∷ ms) = (m.meaning here ≡ m.meaning there) × SameOperands ms

  some_same : (ms : List Meaning) → Same ms → some_true ms here ≡ some_true ms there
  some_same [] h = refl
  some_same (m ∷ ms) h =
      binds (m here) (m there) (λ v. if to_truth v then done true else some_true ms here) (λ v. if to_truth v then done true else some_true ms there) h.0
      (λ v. ap (λ o. if to_truth v then done true else o) (some_same ms h.1))

  all_same : (ms : List Meaning) → Same ms → all_true ms here ≡ all_true ms there
  all_same [] h = refl
  all_same (m ∷ ms) h =
      binds (m here) (m there) (λ v. if to_truth v then all_true ms here else done false) (λ v. if to_truth v then all_true ms there else done false) h.0
      (λ v. ap (λ o. if to_truth v then o else done false) (all_same ms h.1))

  compared_same : (ms : List (Operand Comparison)) (v : Value) → SameOperands ms → compared T ms v here ≡ compared T ms v there
  compared_same [] v h = refl
  compared_same (m ∷ ms) v h =
      binds (m.meaning here) (m.meaning there) (λ w. bind (compare_in T m.operator v w) (λ truth. compared T ms (Truth truth) here))
      (λ w. bind (compare_in T m.operator v w) (λ truth. compared T ms (Truth truth) there)) h.0
      (λ w. bind_alike (compare_in T m.operator v w) _ _ (λ truth. compared_same ms (Truth truth) h.1))

  combined_same : (ms : List (Operand ArithOp)) (x : Num) → SameOperands ms → combined T ms x here ≡ combined T ms x there
  combined_same [] x h = refl
  combined_same (m ∷ ms) x h =
      binds (m.meaning here) (m.meaning there) (λ w. bind (number_in T w) (λ y. bind (given (arith m.operator x y)) (λ z. combined T ms z here)))
      (λ w. bind (number_in T w) (λ y. bind (given (arith m.operator x y)) (λ z. combined T ms z there))) h.0
      (λ w. bind_alike (number_in T w) _ _ (λ y. bind_alike (given (arith m.operator x y)) _ _ (λ z. combined_same ms z h.1)))

  abbrev act : (ℕ → Want) → Context → ℕ → Meaning → Evaluation EvalFault Value
  act want c i m = bind (m c) (λ v. as_wanted T (want i) v)

  abbrev piece : ℕ → Meaning → Value → List Value
  piece i m v = v ∷ []

  gathered_same : (want : ℕ → Want) (i : ℕ) (ms : List Meaning) → Same ms → gather (act want here) piece i ms ≡ gather (act want there) piece i ms
  gathered_same want i [] h = refl
  gathered_same want i (m ∷ ms) h =
      binds (act want here i m) (act want there i m) (λ v. bind (gather (act want here) piece (i + 1) ms) (λ rest. done ((v ∷ []) ++ rest)))
      (λ v. bind (gather (act want there) piece (i + 1) ms) (λ rest. done ((v ∷ []) ++ rest))) (ap (λ o. bind o (λ v. as_wanted T (want i) v)) h.0)
      (λ v. ap (λ o. bind o (λ rest. done ((v ∷ []) ++ rest))) (gathered_same want (i + 1) ms h.1))

  values_same : (want : ℕ → Want) (ms : List Meaning) → Same ms → values T want ms here ≡ values T want ms there
  values_same want ms h = gathered_same want 0 ms h

  named_same : (vs : List Value) → named_node here vs ≡ named_node there vs
  named_same [] = refl
  named_same (v ∷ vs) = refl

  text_same : (vs : List Value) → text_or_own T here vs ≡ text_or_own T there vs
  text_same [] = refl
  text_same (v ∷ vs) = refl

  number_same : (vs : List Value) → number_or_own T here vs ≡ number_or_own T there vs
  number_same [] = refl
  number_same (v ∷ vs) = refl

  applied_same : (f : Function) (vs : List Value) → tells_position f ≡ false → applied T f here vs ≡ applied T f there vs
  applied_same functions.Last vs h = absurd (true≢false h)
  applied_same functions.Position vs h = absurd (true≢false h)
  applied_same functions.Current vs h = refl
  applied_same functions.Count vs h = refl
  applied_same functions.Sum vs h = refl
  applied_same functions.LocalName vs h = ap (λ o. of_name T o (λ name. Chars (local_in name))) (named_same vs)
  applied_same functions.NamespaceUri vs h = ap (λ o. of_name T o (λ name. Chars (uri_in name))) (named_same vs)
  applied_same functions.Name vs h = ap (λ o. of_name T o (λ name. Chars (written_in name))) (named_same vs)
  applied_same functions.String vs h = ap as_text (text_same vs)
  applied_same functions.Number vs h = ap as_number (number_same vs)
  applied_same functions.Boolean vs h = refl
  applied_same functions.Not vs h = refl
  applied_same functions.True vs h = refl
  applied_same functions.False vs h = refl
  applied_same functions.Concat vs h = refl
  applied_same functions.StartsWith vs h = refl
  applied_same functions.Contains vs h = refl
  applied_same functions.SubstringBefore vs h = refl
  applied_same functions.SubstringAfter vs h = refl
  applied_same functions.Substring vs h = refl
  applied_same functions.StringLength vs h = ap (λ o. bind o (λ s. done (Number (string_length s)))) (text_same vs)
  applied_same functions.NormalizeSpace vs h = ap (λ o. bind o (λ s. done (Chars (normalize_space s)))) (text_same vs)
  applied_same functions.Translate vs h = refl
  applied_same functions.Lang vs h = refl
  applied_same functions.Floor vs h = refl
  applied_same functions.Ceiling vs h = refl
  applied_same functions.Round vs h = refl

  mutual
    pub meaning_same : (t : TypedTree) → asks_position t ≡ false → meaning T L t here ≡ meaning T L t there
    meaning_same (disjunction ts) h = ap (λ o. visit (bind o (λ truth. done (Truth truth)))) (some_same (meanings T L ts) (meanings_same ts h))
    meaning_same (conjunction ts) h = ap (λ o. visit (bind o (λ truth. done (Truth truth)))) (all_same (meanings T L ts) (meanings_same ts h))
    meaning_same (comparison first rest) h =
        let q = none_of (asks_position first) (comparands_ask rest) h in
        ap visit (binds (meaning T L first here) (meaning T L first there) (λ v. compared T (comparands_meant T L rest) v here)
        (λ v. compared T (comparands_meant T L rest) v there) (meaning_same first q.0)
        (λ v. compared_same (comparands_meant T L rest) v (comparands_same rest q.1)))
    meaning_same (arithmetic first rest) h =
        let q = none_of (asks_position first) (combinands_ask rest) h in
        ap visit (binds (meaning T L first here) (meaning T L first there)
        (λ v. bind (number_in T v) (λ x. bind (combined T (combinands_meant T L rest) x here) (λ y. done (Number y))))
        (λ v. bind (number_in T v) (λ x. bind (combined T (combinands_meant T L rest) x there) (λ y. done (Number y)))) (meaning_same first q.0)
        (λ v. bind_alike (number_in T v) _ _ (λ x. ap (λ o. bind o (λ y. done (Number y))) (combined_same (combinands_meant T L rest) x (combinands_same rest q.1)))))
    meaning_same (negation signs operand) h =
        ap (λ o. visit (bind o (λ v. bind (number_in T v) (λ x. bind (given (negated signs x)) (λ y. done (Number y)))))) (meaning_same operand h)
    meaning_same (union ts) h =
        ap (λ o. visit (bind o (λ vs. done (NodeSet (in_order T (flat_map nodes_of vs)))))) (values_same (λ _. AsItIs) (meanings T L ts) (meanings_same ts h))
    meaning_same (location start steps) h =
        ap (λ o. visit (bind o (λ ns. bind (path T (steps_meant T L steps) current ns) (λ ms. done (NodeSet ms))))) (start_same start h)
    meaning_same (selection base predicates) h =
        ap (λ o. visit (bind o (λ v. bind (filtered (meanings T L predicates) current (nodes_of v)) (λ ms. done (NodeSet ms))))) (meaning_same base h)
    meaning_same (slot at type) h = refl
    meaning_same (text value) h = refl
    meaning_same (whole value) h = refl
    meaning_same (application f ts) h =
        let q = none_of (tells_position f) (some_asks ts) h in
        ap visit (binds (values T (wanted f) (meanings T L ts) here) (values T (wanted f) (meanings T L ts) there)
        (λ vs. applied T f here vs) (λ vs. applied T f there vs) (values_same (wanted f) (meanings T L ts) (meanings_same ts q.1)) (λ vs. applied_same f vs q.0))

    start_same : (start : TypedPlace) → place_asks start ≡ false → start_nodes T L start here ≡ start_nodes T L start there
    start_same at_root h = refl
    start_same at_context h = refl
    start_same (at_nodes base) h = ap (λ o. bind o (λ v. done (nodes_of v))) (meaning_same base h)

    comparands_same : (rest : Comparands) → comparands_ask rest ≡ false → SameOperands (comparands_meant T L rest)
    comparands_same no_comparands h = tt
    comparands_same (comparand operator operand rest) h =
        let q = none_of (asks_position operand) (comparands_ask rest) h in (meaning_same operand q.0, comparands_same rest q.1)

    combinands_same : (rest : Combinands) → combinands_ask rest ≡ false → SameOperands (combinands_meant T L rest)
    combinands_same no_combinands h = tt
    combinands_same (combinand operator operand rest) h =
        let q = none_of (asks_position operand) (combinands_ask rest) h in (meaning_same operand q.0, combinands_same rest q.1)

    meanings_same : (ts : TypedTrees) → some_asks ts ≡ false → Same (meanings T L ts)
    meanings_same no_typed h = tt
    meanings_same (typed t ts) h =
        let q = none_of (asks_position t) (some_asks ts) h in (meaning_same t q.0, meanings_same ts q.1)
