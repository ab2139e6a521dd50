-- A rule more of the last pattern.
use Rattle.std.proofs.Common.{◌≡◌, ℕ, List, [], ◌∷◌, ◌++◌, Option, refl, ap}
use Rattle.sch_compiled.specs.declared.parts.PlanPattern.{PlanPattern}
use Rattle.sch_compiled.specs.declared.parts.PlanRule.{PlanRule}
use Rattle.sch_compiled.specs.Patterns.{with_last_rule}

abbrev pattern_with : Option (List ℕ) → List PlanRule → PlanPattern
pattern_with id rules = record { id = id; rules = rules }

pub with-last : (ps : List PlanPattern) (id : Option (List ℕ)) (rules : List PlanRule) (rule : PlanRule) →
    with_last_rule (ps ++ pattern_with id rules ∷ []) rule ≡ ps ++ pattern_with id (rules ++ rule ∷ []) ∷ []
with-last [] id rules rule = refl
with-last (p ∷ []) id rules rule = refl
with-last (p ∷ q ∷ ps) id rules rule = ap (λ l. p ∷ l) (with-last (q ∷ ps) id rules rule)
