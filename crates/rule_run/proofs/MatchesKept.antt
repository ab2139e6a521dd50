-- What is kept of rules, one by one.
use Rattle.std.proofs.Common.{◌≡◌, ℕ, zero, suc, List, [], ◌∷◌, ◌++◌, ◌⊎◌, inl, inr, set, refl, sym, ◌∙◌, ap, subst, Some, None, Option}
use Rattle.std.specs.Prelude.{slice_get, IfSome}
use Rattle.doc_tree.specs.Table.{Contents}
use Rattle.xp_typed_tree.specs.TypedTree.{TypedPathTree}
use Rattle.xp_meaning.specs.Evaluation.{Lets}
use Rattle.xslt_match.specs.declared.kept.KeptSteps.{KeptSteps}
use Rattle.xslt_match.specs.Kept.{IsKeptFor}
use Rattle.sch_compiled.specs.declared.parts.PlanRule.{PlanRule}
use Rattle.rule_run.specs.KeptMatches.{AreStepsKept}

-- an item of a list with one more at its end
get_pushed : {X : Type 0} (xs : List X) (x : X) (i : ℕ) (y : X) → slice_get (xs ++ x ∷ []) i ≡ Some y → (slice_get xs i ≡ Some y) ⊎ (x ≡ y)
get_pushed [] x zero y is = inr (cc)
get_pushed [] x (suc i) y is = absurd (cc)
get_pushed (z ∷ xs) x zero y is = inl is
get_pushed (z ∷ xs) x (suc i) y is = get_pushed xs x i y is

-- an item of a list in which one was replaced
get_replaced : {X : Type 0} (xs : List X) (i : ℕ) (x : X) (j : ℕ) (y : X) → slice_get (set xs i x) j ≡ Some y → ((j ≡ i) × (x ≡ y)) ⊎ (slice_get xs j ≡ Some y)
get_replaced [] i x j y is = inr is
get_replaced (z ∷ xs) zero x zero y is = let same : x ≡ y = cc in inl (refl, same)
get_replaced (z ∷ xs) zero x (suc j) y is = inr is
get_replaced (z ∷ xs) (suc i) x zero y is = inr is
get_replaced (z ∷ xs) (suc i) x (suc j) y is = elim (get_replaced xs i x j y is) [ inl h ↦ inl (ap suc h.0, h.1) | inr h ↦ inr h ]

module _ (C : Contents) (L : Lets) (rules : List PlanRule) where
  pub kept_pushed : (kept now : List KeptSteps) (steps : KeptSteps) → now ≡ kept ++ steps ∷ [] → ((D : Contents) (M : Lets) (ps : List TypedPathTree) → IsKeptFor D M ps steps) →
      AreStepsKept C L rules kept → AreStepsKept C L rules now
  kept_pushed kept now steps is fresh each r rule found there at =
      elim (get_pushed kept steps r found (ap (λ ks. slice_get ks r) (sym is) ∙ at)) [
        | inl before ↦ each r rule found there before
        | inr last ↦ subst (IsKeptFor C L rule.context) last (fresh C L rule.context)
      ]

  pub kept_replaced : (kept now : List KeptSteps) (r : ℕ) (rule : PlanRule) (steps : KeptSteps) → slice_get rules r ≡ Some rule → now ≡ set kept r steps → IsKeptFor C L rule.context steps →
      AreStepsKept C L rules kept → AreStepsKept C L rules now
  kept_replaced kept now r rule steps stands is here each s other found there at =
      elim (get_replaced kept r steps s found (ap (λ ks. slice_get ks s) (sym is) ∙ at)) [
        | inl h ↦ (
            let same : Some other ≡ Some rule = sym there ∙ ap (slice_get rules) h.0 ∙ stands in
            let one : rule ≡ other = cc in
            subst (λ q. IsKeptFor C L q.context found) one (subst (IsKeptFor C L rule.context) h.1 here)
            )
        | inr before ↦ each s other found there before
      ]

-- what is said of a rule where it is there
pub if_rule : (P : PlanRule → Type 0) (o : Option PlanRule) (rule : PlanRule) → o ≡ Some rule → IfSome o P → P rule
if_rule P o rule is h = subst (λ q. IfSome q P) is h

pub rule_if : (P : PlanRule → Type 0) (o : Option PlanRule) (rule : PlanRule) → o ≡ Some rule → P rule → IfSome o P
rule_if P o rule is h = subst (λ q. IfSome q P) (sym is) h

pub each_if : (P : PlanRule → Type 0) (o : Option PlanRule) → ((rule : PlanRule) → o ≡ Some rule → P rule) → IfSome o P
each_if P None each = tt
each_if P (Some rule) each = each rule refl
