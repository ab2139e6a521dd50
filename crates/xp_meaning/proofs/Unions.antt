-- The nodes of a union are counted.
use Rattle.std.proofs.Common.{◌≡◌, ℕ, ◌+◌, Bool, true, false, cond, ◌||◌, List, [], ◌∷◌, ◌++◌, length, refl, ◌∙◌, ap, Ok, arith, append-nil}
use Rattle.std.specs.Prelude.{filter, flat_map}
use Rattle.doc_tree.specs.Lists.{mem}
use Rattle.doc_tree.specs.Table.{Table}
use Rattle.doc_tree.specs.Walks.{order}
use Rattle.doc_axes.specs.Sets.{in_order}
use Rattle.doc_axes.proofs.SubLists.{filter-same, mem-append_is}
use Rattle.xp_outcome.specs.Evaluation.{Evaluation, done, bind, gather}
use Rattle.xp_typed_tree.specs.declared.function.Function.TheVariants.{Count}
use Rattle.xp_typed_tree.specs.TypedTree.{TypedTree, union, application, typed, no_typed}
use Rattle.xp_values.specs.declared.values.Value.{Value}
use Rattle.xp_values.specs.declared.values.Value.TheVariants.{NodeSet}
use Rattle.xp_values.specs.declared.values.EvalFault.{EvalFault}
use Rattle.xp_meaning.specs.declared.want.Want.{Want}
use Rattle.xp_meaning.specs.declared.want.Want.TheVariants.{AsItIs}
use Rattle.xp_meaning.specs.Conversions.{as_wanted, nodes_of}
use Rattle.xp_meaning.specs.declared.context.Context.{Context}
use Rattle.xp_meaning.specs.Paths.{Meaning}
use Rattle.xp_meaning.specs.Functions.{wanted, applied, counted}
use Rattle.xp_meaning.specs.Evaluation.{Lets, meaning, meanings, values}
use Rattle.xp_meaning.specs.Laws.{UnionCountsOnce}
use Rattle.xp_meaning.proofs.Answers.{answer_then, answer_visit}

-- values that are taken as they are
module _ (T : Table) (want : ℕ → Want) (as_is : (i : ℕ) (v : Value) → (as_wanted T (want i) v).answer ≡ Ok v) (c : Context) where
  abbrev act : ℕ → Meaning → Evaluation EvalFault Value
  act i m = bind (m c) (λ v. as_wanted T (want i) v)

  abbrev piece : ℕ → Meaning → Value → List Value
  piece i m v = v ∷ []

  one_more : (i : ℕ) (m : Meaning) (ms : List Meaning) (v : Value) (vs : List Value) → (m c).answer ≡ Ok v →
      (gather act piece (i + 1) ms).answer ≡ Ok vs → (gather act piece i (m ∷ ms)).answer ≡ Ok (v ∷ vs)
  unfolding done
  one_more i m ms v vs is rest =
      answer_then (act i m) (λ w. bind (gather act piece (i + 1) ms) (λ more. done ((w ∷ []) ++ more))) v
      (answer_then (m c) (λ w. as_wanted T (want i) w) v is ∙ as_is i v)
      ∙ answer_then (gather act piece (i + 1) ms) (λ more. done ((v ∷ []) ++ more)) vs rest

  no_more : (i : ℕ) → (gather act piece i []).answer ≡ Ok []
  unfolding done
  no_more i = refl

as_it_is : (T : Table) (v : Value) → (as_wanted T AsItIs v).answer ≡ Ok v
unfolding done
as_it_is T v = refl

-- one node after another is among both, one of them, or neither
count_once : (p q : ℕ → Bool) (ns : List ℕ) → length (filter (λ m. p m || q m) ns) + length (filter q (filter p ns)) ≡ length (filter p ns) + length (filter q ns)
count_once p q [] = refl
count_once p q (n ∷ ns) =
    let rest = count_once p q ns in
    elim (p n) as (λ b. length (cond (b || q n) (n ∷ filter (λ m. p m || q m) ns) (filter (λ m. p m || q m) ns))
    + length (filter q (cond b (n ∷ filter p ns) (filter p ns))) ≡ length (cond b (n ∷ filter p ns) (filter p ns)) + length (cond (q n) (n ∷ filter q ns) (filter q ns))) [
      | true ↦ elim (q n) as (λ d. length (n ∷ filter (λ m. p m || q m) ns) + length (cond d (n ∷ filter q (filter p ns)) (filter q (filter p ns)))
          ≡ length (n ∷ filter p ns) + length (cond d (n ∷ filter q ns) (filter q ns))) [
            | true ↦ omega (arith, rest)
            | false ↦ omega (arith, rest)
          ]
      | false ↦ elim (q n) as (λ d. length (cond d (n ∷ filter (λ m. p m || q m) ns) (filter (λ m. p m || q m) ns)) + length (filter q (filter p ns))
          ≡ length (filter p ns) + length (cond d (n ∷ filter q ns) (filter q ns))) [
            | true ↦ omega (arith, rest)
            | false ↦ omega (arith, rest)
          ]
    ]

module _ (T : Table) (L : Lets) (a b : TypedTree) (c : Context) (xs ys : List ℕ)
    (a_is : (meaning T L a c).answer ≡ Ok (NodeSet xs)) (b_is : (meaning T L b c).answer ≡ Ok (NodeSet ys)) where
  abbrev both : List Value
  both = NodeSet xs ∷ NodeSet ys ∷ []

  union_answer : (meaning T L (union (typed a (typed b no_typed))) c).answer ≡ Ok (NodeSet (in_order T (flat_map nodes_of both)))
  unfolding done
  union_answer =
      let ms : List Meaning = meanings T L (typed a (typed b no_typed)) in
      answer_visit (bind (values T (λ _. AsItIs) ms c) (λ vs. done (NodeSet (in_order T (flat_map nodes_of vs)))))
      ∙ answer_then (values T (λ _. AsItIs) ms c) (λ vs. done (NodeSet (in_order T (flat_map nodes_of vs)))) both
      (one_more T (λ _. AsItIs) (λ i v. as_it_is T v) c 0 (meaning T L a) (meaning T L b ∷ []) (NodeSet xs) (NodeSet ys ∷ []) a_is
      (one_more T (λ _. AsItIs) (λ i v. as_it_is T v) c 1 (meaning T L b) [] (NodeSet ys) [] b_is (no_more T (λ _. AsItIs) (λ i v. as_it_is T v) c 2)))

  count_answer : (meaning T L (application Count (typed (union (typed a (typed b no_typed))) no_typed)) c).answer
      ≡ Ok (counted (length (in_order T (flat_map nodes_of both))))
  unfolding done
  count_answer =
      let ms : List Meaning = meanings T L (typed (union (typed a (typed b no_typed))) no_typed) in
      answer_visit (bind (values T (wanted Count) ms c) (λ vs. applied T Count c vs))
      ∙ answer_then (values T (wanted Count) ms c) (λ vs. applied T Count c vs) (NodeSet (in_order T (flat_map nodes_of both)) ∷ [])
      (one_more T (wanted Count) (λ i v. as_it_is T v) c 0 (meaning T L (union (typed a (typed b no_typed)))) [] _ [] union_answer
      (no_more T (wanted Count) (λ i v. as_it_is T v) c 1))

-- the nodes of two sets, of which one stands after the other
joined : (T : Table) (xs ys : List ℕ) → in_order T (xs ++ (ys ++ [])) ≡ filter (λ m. mem m xs || mem m ys) (order T)
joined T xs ys =
    ap (λ zs. in_order T (xs ++ zs)) (append-nil ys) ∙ filter-same (λ m. mem m (xs ++ ys)) (λ m. mem m xs || mem m ys) (order T) (λ m _. mem-append_is m xs ys)

pub union_counts_once : UnionCountsOnce
union_counts_once T L a b c xs ys a_set b_set a_is b_is =
    let p : ℕ → Bool = λ m. mem m xs in
    let q : ℕ → Bool = λ m. mem m ys in
    let all : length (in_order T (xs ++ (ys ++ []))) ≡ length (filter (λ m. p m || q m) (order T)) = ap length (joined T xs ys) in
    let common : length (filter q xs) ≡ length (filter q (filter p (order T))) = ap (λ ns. length (filter q ns)) a_set in
    let first : length xs ≡ length (filter p (order T)) = ap length a_set in
    let second : length ys ≡ length (filter q (order T)) = ap length b_set in
    (length (in_order T (xs ++ (ys ++ []))), (count_answer T L a b c xs ys a_is b_is, omega (arith, count_once p q (order T), all, common, first, second)))
