-- The last pattern of a plan, written in its place.
use Rattle.std.proofs.Common.{◌≡◌, ℕ, suc, zero, List, [], ◌∷◌, ◌++◌, length, slice_set, slice_index_or, ap, arith, sym}
use Rattle.sch_compiled.specs.declared.parts.PlanRule.{PlanRule}
use Rattle.sch_compiled.specs.declared.parts.PlanPattern.{PlanPattern}
use Rattle.sch_compiled.specs.Patterns.{with_last_rule}

-- the last pattern with one rule more, put in its place
pub set-last-with_last_rule : (patterns : List PlanPattern) (i : ℕ) (last : PlanPattern) (rule : PlanRule) → length patterns ≡ suc i →
    slice_index_or patterns i last ≡ last → slice_set patterns i (record { id = last.id; rules = last.rules ++ rule ∷ [] }) ≡ with_last_rule patterns rule
set-last-with_last_rule [] i last rule long is = absurd (omega arith)
set-last-with_last_rule (pattern ∷ []) zero last rule long is = ap (λ (p : PlanPattern). record { id = p.id; rules = p.rules ++ rule ∷ [] } ∷ []) (sym is)
set-last-with_last_rule (pattern ∷ []) (suc i) last rule long is = absurd (omega arith)
set-last-with_last_rule (pattern ∷ next ∷ patterns) zero last rule long is = absurd (omega arith)
set-last-with_last_rule (pattern ∷ next ∷ patterns) (suc i) last rule long is = ap (λ (ps : List PlanPattern). pattern ∷ ps) (set-last-with_last_rule (next ∷ patterns) i last rule (omega arith) is)
