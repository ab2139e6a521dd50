-- Meanings are the same with each node for `current()`, where `current` isn't called.
use Rattle.std.proofs.Common.{◌≡◌, ℕ, ◌+◌, Bool, true, false, List, [], ◌∷◌, ◌++◌, length, refl, sym, true≢false}
use Rattle.std.specs.Prelude.{flat_map, if◌then◌else◌}
use Rattle.std.specs.List.{AllByRecursion as Each}
use Rattle.doc_tree.specs.Table.{Table}
use Rattle.doc_axes.specs.Sets.{in_order}
use Rattle.xp_tree.specs.declared.operators.Comparison.{Comparison}
use Rattle.xp_tree.specs.declared.operators.ArithOp.{ArithOp}
use Rattle.xp_typed_tree.specs.declared.function.Function.{Function}
use Rattle.xp_typed_tree.specs.declared.function.Function.TheVariants as functions
use Rattle.xp_typed_tree.specs.TypedTree.{TypedTree, TypedPlace, TypedSteps, Comparands, Combinands, TypedTrees, disjunction, conjunction, comparison, arithmetic, negation, union, location, selection, slot, text, whole, application, at_root, at_context, at_nodes, no_more_steps, typed_step, no_comparands, comparand, no_combinands, combinand, no_typed, typed}
use Rattle.xp_typed_tree.specs.WellTyped.{WellTyped, PlaceTyped, StepsTyped, ComparandsTyped, CombinandsTyped, AllTyped, may_call, wants_nodes}
use Rattle.xp_outcome.specs.Evaluation.{Evaluation, done, given, bind, visit, gather}
use Rattle.xp_values.specs.declared.values.Value.{Value}
use Rattle.xp_values.specs.declared.values.Value.TheVariants.{NodeSet, Truth, Number}
use Rattle.xp_values.specs.declared.values.EvalFault.{EvalFault}
use Rattle.xp_values.specs.declared.numbers.Num.{Num}
use Rattle.xp_values.specs.Numbers.{arith}
use Rattle.xp_values.specs.Conversions.{to_truth}
use Rattle.xp_meaning.specs.declared.want.Want.{Want}
use Rattle.xp_meaning.specs.declared.want.Want.TheVariants.{AsItIs}
use Rattle.xp_meaning.specs.declared.context.Context.{Context}
use Rattle.xp_meaning.specs.Conversions.{nodes_of, number_in, compare_in, as_wanted}
use Rattle.xp_meaning.specs.Operators.{negated}
use Rattle.xp_meaning.specs.Paths.{Meaning, Step, chosen, placed, kept, filtered, candidates, step_at, step_from, path}
use Rattle.xp_meaning.specs.Functions.{applied, wanted}
use Rattle.xp_meaning.specs.Evaluation.{Lets, Operand, meaning, meanings, some_true, all_true, compared, combined, values, start_nodes, steps_meant, comparands_meant, combinands_meant}
use Rattle.xp_meaning_laws.specs.Current.{with_current, PatternsNeedNoCurrent, StepsNeedNoCurrent}

-- the same with each node for `current()`
abbrev Blind : Meaning → Type 0
Blind m = (c : Context) (n : ℕ) → m (with_current n c) ≡ m c

abbrev BlindStep : Step → Type 0
BlindStep s = Each Blind s.predicates

-- what a function gives, other than `current`
function_blind : (T : Table) (f : Function) → may_call true f ≡ true → (c : Context) (n : ℕ) (vs : List Value) → applied T f (with_current n c) vs ≡ applied T f c vs
function_blind T functions.Last h c n vs = refl
function_blind T functions.Position h c n vs = refl
function_blind T functions.Current h c n vs = absurd (true≢false (sym h))
function_blind T functions.Count h c n vs = refl
function_blind T functions.Sum h c n vs = refl
function_blind T functions.LocalName h c n [] = refl
function_blind T functions.LocalName h c n (v ∷ vs) = refl
function_blind T functions.NamespaceUri h c n [] = refl
function_blind T functions.NamespaceUri h c n (v ∷ vs) = refl
function_blind T functions.Name h c n [] = refl
function_blind T functions.Name h c n (v ∷ vs) = refl
function_blind T functions.String h c n [] = refl
function_blind T functions.String h c n (v ∷ vs) = refl
function_blind T functions.Number h c n [] = refl
function_blind T functions.Number h c n (v ∷ vs) = refl
function_blind T functions.Boolean h c n vs = refl
function_blind T functions.Not h c n vs = refl
function_blind T functions.True h c n vs = refl
function_blind T functions.False h c n vs = refl
function_blind T functions.Concat h c n vs = refl
function_blind T functions.StartsWith h c n vs = refl
function_blind T functions.Contains h c n vs = refl
function_blind T functions.SubstringBefore h c n vs = refl
function_blind T functions.SubstringAfter h c n vs = refl
function_blind T functions.Substring h c n vs = refl
function_blind T functions.StringLength h c n [] = refl
function_blind T functions.StringLength h c n (v ∷ vs) = refl
function_blind T functions.NormalizeSpace h c n [] = refl
function_blind T functions.NormalizeSpace h c n (v ∷ vs) = refl
function_blind T functions.Translate h c n vs = refl
function_blind T functions.Lang h c n vs = refl
function_blind T functions.Floor h c n vs = refl
function_blind T functions.Ceiling h c n vs = refl
function_blind T functions.Round h c n vs = refl

-- operands one after another
module _ (T : Table) (c : Context) (n : ℕ) where
  some_blind : (ms : List Meaning) → Each Blind ms → some_true ms (with_current n c) ≡ some_true ms c
  some_blind [] h = refl
  some_blind (m ∷ ms) h =
      let first = h.0 c n in
      let rest = some_blind ms h.1 in
      λ i. bind (first i) (λ v. if to_truth v then done true else rest i)

  all_blind : (ms : List Meaning) → Each Blind ms → all_true ms (with_current n c) ≡ all_true ms c
  all_blind [] h = refl
  all_blind (m ∷ ms) h =
      let first = h.0 c n in
      let rest = all_blind ms h.1 in
      λ i. bind (first i) (λ v. if to_truth v then rest i else done false)

  compared_blind : (ms : List (Operand Comparison)) → Each (λ o. Blind o.meaning) ms → (v : Value) → compared T ms v (with_current n c) ≡ compared T ms v c
  compared_blind [] h v = refl
  compared_blind (m ∷ ms) h v =
      let first = h.0 c n in
      let rest : (truth : Bool) → compared T ms (Truth truth) (with_current n c) ≡ compared T ms (Truth truth) c = λ truth. compared_blind ms h.1 (Truth truth) in
      λ i. bind (first i) (λ w. bind (compare_in T m.operator v w) (λ truth. rest truth i))

  combined_blind : (ms : List (Operand ArithOp)) → Each (λ o. Blind o.meaning) ms → (x : Num) → combined T ms x (with_current n c) ≡ combined T ms x c
  combined_blind [] h x = refl
  combined_blind (m ∷ ms) h x =
      let first = h.0 c n in
      let rest : (z : Num) → combined T ms z (with_current n c) ≡ combined T ms z c = λ z. combined_blind ms h.1 z in
      λ i. bind (first i) (λ w. bind (number_in T w) (λ y. bind (given (arith m.operator x y)) (λ z. rest z i)))

  -- operands that are converted, from a place on
  abbrev converted : (ℕ → Want) → Context → ℕ → List Meaning → Evaluation EvalFault (List Value)
  converted want d place ms = gather (λ i m. bind (m d) (λ v. as_wanted T (want i) v)) (λ _ _ v. v ∷ []) place ms

  converted_blind : (want : ℕ → Want) (place : ℕ) (ms : List Meaning) → Each Blind ms → converted want (with_current n c) place ms ≡ converted want c place ms
  converted_blind want place [] h = refl
  converted_blind want place (m ∷ ms) h =
      let first = h.0 c n in
      let rest = converted_blind want (place + 1) ms h.1 in
      λ i. bind (bind (first i) (λ v. as_wanted T (want place) v)) (λ v. bind (rest i) (λ more. done ((v ∷ []) ++ more)))

-- predicates and steps
kept_blind : (m : Meaning) → Blind m → (current other : ℕ) (ns : List ℕ) → kept m current ns ≡ kept m other ns
kept_blind m h current other ns = λ i. gather (λ position n. h (placed other (length ns) position n) current i) chosen 1 ns

filtered_blind : (ps : List Meaning) → Each Blind ps → (current other : ℕ) (ns : List ℕ) → filtered ps current ns ≡ filtered ps other ns
filtered_blind [] h current other ns = refl
filtered_blind (p ∷ ps) h current other ns =
    let first = kept_blind p h.0 current other ns in
    let rest : (ms : List ℕ) → filtered ps current ms ≡ filtered ps other ms = λ ms. filtered_blind ps h.1 current other ms in
    λ i. bind (first i) (λ ms. rest ms i)

module _ (T : Table) (current other : ℕ) where
  step_blind : (s : Step) → BlindStep s → (n : ℕ) → step_at T s current n ≡ step_at T s other n
  step_blind s h n =
      let left : (ms : List ℕ) → filtered s.predicates current ms ≡ filtered s.predicates other ms = λ ms. filtered_blind s.predicates h current other ms in
      λ i. bind (candidates T s.axis s.test n) (λ ms. left ms i)

  path_blind : (ss : List Step) → Each BlindStep ss → (ns : List ℕ) → path T ss current ns ≡ path T ss other ns
  path_blind [] h ns = refl
  path_blind (s ∷ ss) h ns =
      let first : (n : ℕ) → step_at T s current n ≡ step_at T s other n = λ n. step_blind s h.0 n in
      let rest : (ms : List ℕ) → path T ss current ms ≡ path T ss other ms = λ ms. path_blind ss h.1 ms in
      λ i. bind (bind (gather (λ _ n. first n i) (λ _ _ ms. ms) 1 ns) (λ ms. done (in_order T ms))) (λ ms. rest ms i)

module _ (T : Table) (L : Lets) where
  mutual
    blind : (t : TypedTree) → WellTyped true t → Blind (meaning T L t)
    blind (disjunction ts) h c n =
        let truth = some_blind T c n (meanings T L ts) (blinds false ts h) in
        λ i. visit (bind (truth i) (λ b. done (Truth b)))
    blind (conjunction ts) h c n =
        let truth = all_blind T c n (meanings T L ts) (blinds false ts h) in
        λ i. visit (bind (truth i) (λ b. done (Truth b)))
    blind (comparison first rest) h c n =
        let m = blind first h.1 c n in
        let os = blind_comparands rest h.2 in
        let more : (v : Value) → compared T (comparands_meant T L rest) v (with_current n c) ≡ compared T (comparands_meant T L rest) v c =
        λ v. compared_blind T c n (comparands_meant T L rest) os v in
        λ i. visit (bind (m i) (λ v. more v i))
    blind (arithmetic first rest) h c n =
        let m = blind first h.0 c n in
        let os = blind_combinands rest h.1 in
        let more : (x : Num) → combined T (combinands_meant T L rest) x (with_current n c) ≡ combined T (combinands_meant T L rest) x c =
        λ x. combined_blind T c n (combinands_meant T L rest) os x in
        λ i. visit (bind (m i) (λ v. bind (number_in T v) (λ x. bind (more x i) (λ y. done (Number y)))))
    blind (negation signs operand) h c n =
        let m = blind operand h c n in
        λ i. visit (bind (m i) (λ v. bind (number_in T v) (λ x. bind (given (negated signs x)) (λ y. done (Number y)))))
    blind (union ts) h c n =
        let sets = converted_blind T c n (λ _. AsItIs) 0 (meanings T L ts) (blinds true ts h) in
        λ i. visit (bind (sets i) (λ vs. done (NodeSet (in_order T (flat_map nodes_of vs)))))
    blind (location place steps) h c n =
        let m = blind_start place h.0 c n in
        let ss = blind_steps steps h.1 in
        let more : (ns : List ℕ) → path T (steps_meant T L steps) n ns ≡ path T (steps_meant T L steps) c.current ns =
        λ ns. path_blind T n c.current (steps_meant T L steps) ss ns in
        λ i. visit (bind (m i) (λ ns. bind (more ns i) (λ ms. done (NodeSet ms))))
    blind (selection base predicates) h c n =
        let m = blind base h.0 c n in
        let ps = blinds false predicates h.2 in
        let more : (ns : List ℕ) → filtered (meanings T L predicates) n ns ≡ filtered (meanings T L predicates) c.current ns =
        λ ns. filtered_blind (meanings T L predicates) ps n c.current ns in
        λ i. visit (bind (m i) (λ v. bind (more (nodes_of v) i) (λ ms. done (NodeSet ms))))
    blind (slot place type) h c n = refl
    blind (text characters) h c n = refl
    blind (whole number) h c n = refl
    blind (application f ts) h c n =
        let arguments = converted_blind T c n (wanted f) 0 (meanings T L ts) (blinds (wants_nodes f) ts h.2) in
        let result : (vs : List Value) → applied T f (with_current n c) vs ≡ applied T f c vs = λ vs. function_blind T f h.0 c n vs in
        λ i. visit (bind (arguments i) (λ vs. result vs i))

    blind_start : (place : TypedPlace) → PlaceTyped true place → (c : Context) (n : ℕ) → start_nodes T L place (with_current n c) ≡ start_nodes T L place c
    blind_start at_root h c n = refl
    blind_start at_context h c n = refl
    blind_start (at_nodes base) h c n =
        let m = blind base h.0 c n in
        λ i. bind (m i) (λ v. done (nodes_of v))

    blind_steps : (steps : TypedSteps) → StepsTyped true steps → Each BlindStep (steps_meant T L steps)
    blind_steps no_more_steps h = tt
    blind_steps (typed_step axis node_test predicates steps) h = (blinds false predicates h.0, blind_steps steps h.1)

    blind_comparands : (rest : Comparands) → ComparandsTyped true rest → Each (λ o. Blind o.meaning) (comparands_meant T L rest)
    blind_comparands no_comparands h = tt
    blind_comparands (comparand operator operand rest) h = (blind operand h.0, blind_comparands rest h.1)

    blind_combinands : (rest : Combinands) → CombinandsTyped true rest → Each (λ o. Blind o.meaning) (combinands_meant T L rest)
    blind_combinands no_combinands h = tt
    blind_combinands (combinand operator operand rest) h = (blind operand h.0, blind_combinands rest h.1)

    blinds : (sets : Bool) (ts : TypedTrees) → AllTyped true sets ts → Each Blind (meanings T L ts)
    blinds sets no_typed h = tt
    blinds sets (typed t ts) h = (blind t h.0, blinds sets ts h.2)

pub patterns_need_no_current : PatternsNeedNoCurrent
patterns_need_no_current T L t c n h = blind T L t h c n

pub steps_need_no_current : StepsNeedNoCurrent
steps_need_no_current T L axis node_test predicates current other n h = step_blind T current other _ (blinds T L false predicates h) n
