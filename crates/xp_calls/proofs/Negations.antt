-- Minus signs, one after another.
use Rattle.std.proofs.Common.{◌≡◌, ℕ, zero, suc, pos, ◌-◌, ◌<◌, Ok, Err, refl, sym, ◌∙◌, ap, arith}
use Rattle.xp_values.specs.declared.numbers.Num.{Num}
use Rattle.xp_values.specs.declared.numbers.Num.TheVariants.{Whole}
use Rattle.xp_tree.specs.declared.operators.ArithOp.TheVariants as operations
use Rattle.xp_values.specs.declared.values.EvalFault.{EvalFault}
use Rattle.xp_values.specs.Numbers as numbers
use Rattle.xp_values.specs.Outcomes.{then_of}
use Rattle.xp_meaning.specs.Operators.{negated}

-- one sign
negated_once : (k : ℕ) (n : Num) → 0 < k → negated k n ≡ then_of (numbers.arith operations.Sub (Whole (pos 0)) n) (λ m. negated (k - 1) m)
negated_once zero n some = absurd (omega arith)
negated_once (suc k) n some = let same : k ≡ suc k - 1 = omega arith in ap (λ j. then_of (numbers.arith operations.Sub (Whole (pos 0)) n) (λ m. negated j m)) same

pub negated_more : (k : ℕ) (n m : Num) → 0 < k → Ok m ≡ numbers.arith operations.Sub (Whole (pos 0)) n → negated k n ≡ negated (k - 1) m
negated_more k n m some is = negated_once k n some ∙ ap (λ r. then_of r (λ j. negated (k - 1) j)) (sym is)

pub negated_fault : (k : ℕ) (n : Num) (f : EvalFault) → 0 < k → Err f ≡ numbers.arith operations.Sub (Whole (pos 0)) n → negated k n ≡ Err f
negated_fault k n f some is = negated_once k n some ∙ ap (λ r. then_of r (λ j. negated (k - 1) j)) (sym is)

pub negated_end : (k : ℕ) (n : Num) → (0 < k → ⊥) → negated k n ≡ Ok n
negated_end zero n none = refl
negated_end (suc k) n none = absurd (none (omega arith))
