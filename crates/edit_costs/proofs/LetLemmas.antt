-- The lets in force that are held.
use Rattle.std.proofs.Common.{◌≡◌, ◌∙◌, inl, inr, ℕ, ◌<◌, ◌≤◌, List, length, take, Option, None, Some, slice_get, arith}
use Rattle.std.proofs.lemmas.Bool.{cases_lt}
use Rattle.std.proofs.lemmas.List.{ext_get_or, get_or_past}
use Rattle.std.proofs.lemmas.Option.{slice_get_cases}
use Rattle.doc_tree.specs.Table.{Table}
use Rattle.xp_outcome.specs.Slots.{in_slot}
use Rattle.xp_meaning.specs.Evaluation.{Lets}
use Rattle.sch_compiled.specs.declared.parts.LetInForce.{LetInForce}
use Rattle.sch_compiled.specs.declared.plan.Plan.{Plan}
use Rattle.sch_locality_laws.specs.Laws.{LetsStandInOrder}
use Rattle.sch_locality_laws.specs.Units.{lets_of, unit_let}

-- slots that are all filled, and others with the same values and no more, are the same
same_slots : {V : Type 0} (xs ys : List (Option V)) → length xs ≤ length ys → ((i : ℕ) → i < length ys → (v : V) × (in_slot ys i ≡ Some v)) →
    ((i : ℕ) → i < length ys → in_slot xs i ≡ in_slot ys i) → xs ≡ ys
same_slots {V} xs ys few filled same = ext_get_or None xs ys long (λ i below. same i (omega (arith, below, few)))
  where
    short : length xs < length ys → ⊥
    short below =
        let value = filled (length xs) below in
        let none : in_slot xs (length xs) ≡ None = get_or_past xs (length xs) None (omega arith) in
        let some : in_slot xs (length xs) ≡ Some value.0 = same (length xs) below ∙ value.1 in
        (cc)

    long : length xs ≡ length ys
    long = elim (cases_lt (length xs) (length ys)) [ inl below ↦ absurd (short below) | inr past ↦ omega (arith, past, few) ]

-- a let stands in each slot
pub let_there : (plan : Plan) (slot : ℕ) → slot < length plan.lets → (t : LetInForce) × (slice_get plan.lets slot ≡ Some t)
let_there plan slot within = elim (slice_get_cases plan.lets slot).1 [
  | inl at ↦ (at.0, at.2)
  | inr past ↦ absurd (omega (arith, within, past.0))
]

-- all lets are those of the tree
pub lets_whole : (order : LetsStandInOrder) (plan : Plan) (T : Table) (L : Lets) → length L ≤ length plan.lets →
    ((slot : ℕ) → slot < length plan.lets → in_slot L slot ≡ in_slot (lets_of plan T) slot) → L ≡ lets_of plan T
lets_whole order plan T L few gives =
    same_slots L (lets_of plan T) (omega (arith, few, count))
    (λ slot below.
    let t = let_there plan slot (omega (arith, below, count)) in
    ((unit_let T (take slot (lets_of plan T)) t.0.expr).answer, order.under plan T slot t.0 t.1))
    (λ slot below. gives slot (omega (arith, below, count)))
  where
    count : length (lets_of plan T) ≡ length plan.lets
    count = order.count plan T
