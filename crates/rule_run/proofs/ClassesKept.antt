-- What is known of classes of nodes, slot by slot, and rule by rule.
use Rattle.std.proofs.Common.{◌≡◌, ℕ, zero, suc, ◌<◌, List, [], ◌∷◌, ◌++◌, ◌⊎◌, inl, inr, get_or, replicate, set, refl, sym, ◌∙◌, ap, subst, Some, None, Option, arith}
use Rattle.std.specs.Prelude.{slice_get, IfSome}
use Rattle.doc_tree.specs.Table.{Contents}
use Rattle.xp_meaning.specs.Evaluation.{Lets}
use Rattle.xslt_match.specs.declared.refusing.NodeClass.{NodeClass}
use Rattle.xslt_match.specs.Refusing.{IsOfClass, Refuses}
use Rattle.sch_compiled.specs.declared.parts.PlanRule.{PlanRule}
use Rattle.rule_run.specs.declared.classes.ClassRules.{ClassRules}
use Rattle.rule_run.specs.Classes.{AreKnown, AreRefused, IsEachRefused}

-- what stands at a place of a list in which one item was replaced
read_replaced : {X : Type 0} (xs : List X) (i : ℕ) (x : X) (j : ℕ) (d : X) → ((j ≡ i) × (get_or (set xs i x) j d ≡ x)) ⊎ (get_or (set xs i x) j d ≡ get_or xs j d)
read_replaced [] i x j d = inr refl
read_replaced (z ∷ xs) zero x zero d = inl (refl, refl)
read_replaced (z ∷ xs) zero x (suc j) d = inr refl
read_replaced (z ∷ xs) (suc i) x zero d = inr refl
read_replaced (z ∷ xs) (suc i) x (suc j) d = elim (read_replaced xs i x j d) [ inl h ↦ inl (ap suc h.0, h.1) | inr h ↦ inr h ]

-- the default at the end of a list changes nothing that is read with it
read_pushed : {X : Type 0} (xs : List X) (d : X) (i : ℕ) → get_or (xs ++ d ∷ []) i d ≡ get_or xs i d
read_pushed [] d zero = refl
read_pushed [] d (suc i) = refl
read_pushed (z ∷ xs) d zero = refl
read_pushed (z ∷ xs) d (suc i) = read_pushed xs d i

-- a list of the default alone
read_same : {X : Type 0} (n : ℕ) (x : X) (i : ℕ) → get_or (replicate n x) i x ≡ x
read_same zero x i = refl
read_same (suc n) x zero = refl
read_same (suc n) x (suc i) = read_same n x i

module _ (C : Contents) (rules : List PlanRule) where
  -- one more slot, and one that is filled anew
  pub known_pushed : (classes now : List (Option ClassRules)) → now ≡ classes ++ None ∷ [] → AreKnown C rules classes → AreKnown C rules now
  known_pushed classes now is known i =
      subst (λ o. IfSome o (AreRefused C rules)) (sym (ap (λ cs. get_or cs i None) is ∙ read_pushed classes None i)) (known i)

  pub known_replaced : (classes now : List (Option ClassRules)) (i : ℕ) (one : ClassRules) → now ≡ set classes i (Some one) → AreRefused C rules one → AreKnown C rules classes →
      AreKnown C rules now
  known_replaced classes now i one is here known j =
      subst (λ cs. IfSome (get_or cs j None) (AreRefused C rules)) (sym is)
      (elim (read_replaced classes i (Some one) j None) [
        | inl h ↦ subst (λ o. IfSome o (AreRefused C rules)) (sym h.1) here
        | inr h ↦ subst (λ o. IfSome o (AreRefused C rules)) (sym h) (known j)
      ])

  module _ (class : NodeClass) where
    -- where no rule is known to refuse the class
    pub nothing_refused : (count : ℕ) → IsEachRefused C rules class (replicate count 255)
    nothing_refused count L r n rule there below is =
        let same : get_or (replicate count 255) r 255 ≡ 255 = read_same {X = ℕ} count 255 r in absurd (omega (arith, below, same))

    -- one more rule
    pub refused_put : (levels : List ℕ) (r : ℕ) (rule : PlanRule) (level : ℕ) → slice_get rules r ≡ Some rule →
        (level < 255 → (L : Lets) (n : ℕ) → IsOfClass C class n → Refuses C.nodes L rule.context level n) →
        IsEachRefused C rules class levels → IsEachRefused C rules class (set levels r level)
    refused_put levels r rule level stands here before L q n other there below is =
        elim (read_replaced levels r level q 255) [
          | inl h ↦ (
              let same : Some other ≡ Some rule = sym there ∙ ap (slice_get rules) h.0 ∙ stands in
              let one : rule ≡ other = cc in
              subst (λ k. Refuses C.nodes L other.context k n) (sym h.1)
              (subst (λ o. Refuses C.nodes L o.context level n) one (here (omega (arith, below, h.1)) L n is))
              )
          | inr h ↦ subst (λ k. Refuses C.nodes L other.context k n) (sym h) (before L q n other there (omega (arith, below, h)) is)
        ]
