-- A sum, one node further.
use Rattle.std.proofs.Common.{◌≡◌, ℕ, List, ◌∷◌, sym, ◌∙◌, ap, subst, Result, Ok, Err}
use Rattle.std.specs.Result.{IsErrAnd}
use Rattle.doc_tree.specs.Table.{Table}
use Rattle.doc_tree.specs.Walks.{string_value_of}
use Rattle.xp_values.specs.declared.values.EvalFault.{EvalFault}
use Rattle.xp_values.specs.declared.values.EvalError.{EvalError}
use Rattle.xp_values.specs.declared.values.EvalError.TheVariants.{Fault, Memory}
use Rattle.xp_values.specs.declared.numbers.Num.{Num}
use Rattle.xp_tree.specs.declared.operators.ArithOp.TheVariants as ops
use Rattle.xp_values.specs.Numbers.{arith}
use Rattle.xp_values.specs.Numerals.{text_to_number}
use Rattle.xp_values.specs.Outcomes.{Gives, then_of}
use Rattle.xp_meaning.specs.Conversions.{sum_from}

module _ (T : Table) (total : Num) (n : ℕ) (rest : List ℕ) where
  pub sum_unread : (f : EvalFault) → Err f ≡ text_to_number (string_value_of T n) → sum_from T total (n ∷ rest) ≡ Err f
  sum_unread f bad = ap (λ r. then_of r (λ number. then_of (arith ops.Add total number) (λ sum. sum_from T sum rest))) (sym bad)

  pub sum_outside : (k : Num) (f : EvalFault) → Ok k ≡ text_to_number (string_value_of T n) → Err f ≡ arith ops.Add total k → sum_from T total (n ∷ rest) ≡ Err f
  sum_outside k f is bad =
      ap (λ r. then_of r (λ number. then_of (arith ops.Add total number) (λ sum. sum_from T sum rest))) (sym is)
      ∙ ap (λ r. then_of r (λ sum. sum_from T sum rest)) (sym bad)

  pub sum_more : (k s : Num) → Ok k ≡ text_to_number (string_value_of T n) → Ok s ≡ arith ops.Add total k → sum_from T total (n ∷ rest) ≡ sum_from T s rest
  sum_more k s is sum_is =
      ap (λ r. then_of r (λ number. then_of (arith ops.Add total number) (λ sum. sum_from T sum rest))) (sym is)
      ∙ ap (λ r. then_of r (λ sum. sum_from T sum rest)) (sym sum_is)

-- `?` hands on the fault of a part, which is that of the whole; want of memory is free
pub gives_passed : {A B : Type 0} (r : Result A EvalError) (e : EvalError) (part : Result B EvalFault) (meant : Result A EvalFault) → IsErrAnd r (λ d. d ≡ e) → Gives {A = B} (Err e) part →
    ((f : EvalFault) → part ≡ Err f → meant ≡ Err f) → Gives r meant
gives_passed (Ok v) e part meant h gives whole = absurd h
gives_passed (Err d) (Fault f) part meant h gives whole = subst (λ x. Gives (Err x) meant) (sym h) (whole f gives)
gives_passed (Err d) Memory part meant h gives whole = subst (λ x. Gives (Err x) meant) (sym h) tt
