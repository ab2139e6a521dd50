-- The pair cap is a quotient: what is within it makes a product within the whole, and the other way round.
use Rattle.std.proofs.Common.{◌≡◌, ◌∙◌, ℕ, ◌*◌, ◌/◌, ◌<◌, ◌≤◌, ◌⊎◌, inl, inr, suc, zero, min, nat_eq, nat_lt, Bool, false, ◌||◌, if◌then◌else◌, length, sym, ap, ap₂, ltb-false, arith}
use Rattle.std.proofs.Math.Nat.{le-div_iff_mul-le, mul_comm}
use Rattle.std.proofs.Math.Bool.{or-false}
use Rattle.std.proofs.lemmas.Bool.{cases_lt, le-ltb, ne_eqb}
use Rattle.std.proofs.lemmas.Bool.Decides.{same_from_decides, Decides-like, Decides-ltb, Decides-or}
use Rattle.sch_base.specs.declared.limits.TheConstants.{MAX_PAIRS}
use Rattle.doc_tree.specs.limits.TheConstants.{MAX_LIVE_NODES}
use Rattle.sch_compiled.specs.declared.plan.Plan.{Plan}
use Rattle.edit_session.specs.Pairs.{CapIsForPairs, cap_under, pair_cap_for}

-- a count within a quotient makes a product within the whole
product_within : (whole parts count : ℕ) → 0 < parts → count ≤ whole / parts → parts * count ≤ whole
product_within whole parts count some within =
    let product : count * parts ≤ whole = (le-div_iff_mul-le some).0 within in
    omega (arith, product, mul_comm count parts)

-- and the other way round
quotient_within : (whole parts count : ℕ) → 0 < parts → parts * count ≤ whole → count ≤ whole / parts
quotient_within whole parts count some within =
    let product : count * parts ≤ whole = omega (arith, within, mul_comm count parts) in
    (le-div_iff_mul-le some).1 product

-- a count is past the less of a quotient and a limit where it is past the limit, or its product past the whole
past_cap : (whole limit parts count : ℕ) → 0 < parts → min (whole / parts) limit < count → (limit < count) ⊎ (whole < parts * count)
past_cap whole limit parts count some past = elim (cases_lt limit count) [
  | inl more ↦ inl more
  | inr within ↦ (elim (cases_lt whole (parts * count)) [
    | inl much ↦ inr much
    | inr little ↦ absurd (omega (arith, past, within, quotient_within whole parts count some little))
  ])
]

from_past : (whole limit parts count : ℕ) → 0 < parts → (limit < count) ⊎ (whole < parts * count) → min (whole / parts) limit < count
from_past whole limit parts count some past = elim past [
  | inl more ↦ omega (arith, more)
  | inr much ↦ (elim (cases_lt (whole / parts) count) [
    | inl above ↦ omega (arith, above)
    | inr within ↦ absurd (omega (arith, much, product_within whole parts count some within))
  ])
]

cap_tells : (whole limit parts count : ℕ) → 0 < parts → nat_lt (min (whole / parts) limit) count ≡ (nat_lt limit count || nat_lt whole (parts * count))
cap_tells whole limit parts count some = same_from_decides _ _
    (Decides-like _ (past_cap whole limit parts count some) (from_past whole limit parts count some) (Decides-ltb (min (whole / parts) limit) count))
    (Decides-or (nat_lt limit count) (nat_lt whole (parts * count)) (Decides-ltb limit count) (Decides-ltb whole (parts * count)))

-- so many nodes are past the cap under so many patterns where they are more than may live, or make too many pairs
pub cap_for_pairs : (patterns count : ℕ) → nat_lt (cap_under patterns) count ≡ (nat_lt MAX_LIVE_NODES count || nat_lt MAX_PAIRS (patterns * count))
cap_for_pairs zero count =
    let none : 0 * count ≡ 0 = omega arith in
    sym (ap (λ (product : ℕ). nat_lt MAX_LIVE_NODES count || nat_lt MAX_PAIRS product) none ∙ or-false (nat_lt MAX_LIVE_NODES count))
cap_for_pairs (suc more) count =
    let some : nat_eq (suc more) 0 ≡ false = ne_eqb (suc more) 0 (λ none. absurd (omega (arith, none))) in
    ap (λ (b : Bool). nat_lt (if b then MAX_LIVE_NODES else min (MAX_PAIRS / suc more) MAX_LIVE_NODES) count) some
    ∙ cap_tells MAX_PAIRS MAX_LIVE_NODES (suc more) count (omega arith)

-- so many nodes are within the cap, where they may live and make no more pairs than may be
pub under-cap : CapIsForPairs → (plan : Plan) (count : ℕ) → count ≤ MAX_LIVE_NODES → nat_lt MAX_PAIRS (length plan.patterns * count) ≡ false → count ≤ pair_cap_for plan
under-cap cap plan count few pairs =
    ltb-false (pair_cap_for plan) count (cap plan count ∙ ap₂ (λ (a b : Bool). a || b) (le-ltb MAX_LIVE_NODES count few) pairs)
