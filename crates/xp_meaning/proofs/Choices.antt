-- What an answer tells of the evaluations before it, and what predicates leave of a list.
use Rattle.std.proofs.Common.{◌≡◌, ℕ, ◌+◌, Bool, true, false, cond, List, [], ◌∷◌, ◌++◌, Result, Ok, Err, refl, sym, ◌∙◌, ap, subst}
use Rattle.std.specs.Prelude.{filter}
use Rattle.doc_axes.proofs.SubLists as subs
use Rattle.doc_axes.proofs.SubLists.{Sub, sub-all}
use Rattle.xp_outcome.specs.Evaluation.{Evaluation, done, fault, bind, behind, gather}
use Rattle.xp_outcome.proofs.Outcomes.{bind-fault}
use Rattle.xp_values.specs.declared.values.Value.{Value}
use Rattle.xp_values.specs.declared.values.EvalFault.{EvalFault}
use Rattle.xp_meaning.specs.Paths.{Meaning, chosen, filtered, holds_at, kept, placed}
use Rattle.xp_meaning.proofs.Answers.{answer_then}

keep_or : {F A : Type 0} → A → Result A F → A
keep_or d (Ok v) = v
keep_or d (Err f) = d

abbrev pub answered : (F : Type 0) {A : Type 0} → A → Result A F
answered F v = Ok v

pub same_ok : {F A : Type 0} (v w : A) → answered F v ≡ Ok w → v ≡ w
unfolding keep_or
same_ok v w is = ap (keep_or v) is

-- what came before an answer
pub record Before {F A B : Type 0} (m : Evaluation F A) (next : A → Evaluation F B) (v : B) : Type 0 where
  pub first : A
  pub is : m.answer ≡ Ok first
  pub then : (next first).answer ≡ Ok v

pub came_before : {F A B : Type 0} (m : Evaluation F A) (next : A → Evaluation F B) (v : B) → (bind m next).answer ≡ Ok v → Before m next v
unfolding bind behind fault
came_before {F} {A} {B} m next v is = by m.answer refl
  where
    by : (a : Result A F) → m.answer ≡ a → Before m next v
    by (Ok w) e = record { first = w; is = e; then = sym (answer_then m next w e) ∙ is }
    by (Err f) e = let bad : Err f ≡ Ok v = sym (ap (λ o. o.answer) (bind-fault m next f e)) ∙ is in cc

pub sub-trans : {a b c : List ℕ} → Sub a b → Sub b c → Sub a c
sub-trans s (subs.skip t) = subs.skip (sub-trans s t)
sub-trans (subs.skip s) (subs.keep t) = subs.skip (sub-trans s t)
sub-trans (subs.keep s) (subs.keep t) = subs.keep (sub-trans s t)
sub-trans s subs.done = s

pub filter-keeps : (p : ℕ → Bool) (xs : List ℕ) → Sub (filter p xs) xs
filter-keeps p [] = subs.done
filter-keeps p (x ∷ xs) =
    elim (p x) as (λ b. Sub (cond b (x ∷ filter p xs) (filter p xs)) (x ∷ xs)) [ true ↦ subs.keep (filter-keeps p xs) | false ↦ subs.skip (filter-keeps p xs) ]

chosen-keeps : (i n : ℕ) (w : Value) (xs ys : List ℕ) → Sub xs ys → Sub (chosen i n w ++ xs) (n ∷ ys)
chosen-keeps i n w xs ys s =
    elim (holds_at i w) as (λ b. Sub (cond b (n ∷ []) [] ++ xs) (n ∷ ys)) [ true ↦ subs.keep s | false ↦ subs.skip s ]

-- a predicate keeps some of its nodes, in their order
gathered-sub : (act : ℕ → ℕ → Evaluation EvalFault Value) (i : ℕ) (ns v : List ℕ) → (gather act chosen i ns).answer ≡ Ok v → Sub v ns
unfolding done
gathered-sub act i [] v is = subst (λ k. Sub k []) (same_ok {F = EvalFault} [] v is) subs.done
gathered-sub act i (n ∷ ns) v is =
    let one = came_before (act i n) (λ w. bind (gather act chosen (i + 1) ns) (λ rest. done (chosen i n w ++ rest))) v is in
    let more = came_before (gather act chosen (i + 1) ns) (λ rest. done (chosen i n one.first ++ rest)) v one.then in
    subst (λ k. Sub k (n ∷ ns)) (same_ok {F = EvalFault} (chosen i n one.first ++ more.first) v more.then)
    (chosen-keeps i n one.first more.first ns (gathered-sub act (i + 1) ns more.first more.is))

pub filtered-sub : (ps : List Meaning) (current : ℕ) (ns v : List ℕ) → (filtered ps current ns).answer ≡ Ok v → Sub v ns
unfolding done
filtered-sub [] current ns v is = subst (λ k. Sub k ns) (same_ok {F = EvalFault} ns v is) (sub-all ns)
filtered-sub (p ∷ ps) current ns v is =
    let one = came_before (kept p current ns) (λ ms. filtered ps current ms) v is in
    sub-trans (filtered-sub ps current one.first v one.then) (gathered-sub (λ position n. p (placed current _ position n)) 1 ns one.first one.is)
