-- What a clean unit read is unchanged.
use Rattle.std.proofs.Common.{◌≡◌, Bool, true, false, ◌&&◌, ◌||◌, List, [], ◌∷◌, refl, sym, true≢false}
use Rattle.std.specs.List.{list_any, AllByRecursion as Each}
use Rattle.std.proofs.lemmas.Bool.{not-false}
use Rattle.doc_tree.specs.cell.Cell.{Cell}
use Rattle.doc_tree.specs.Table.{Table}
use Rattle.xp_outcome.specs.Cells.{cells_of}
use Rattle.xp_outcome.specs.Evaluation.{Read, cell, names_along, variable}
use Rattle.xp_outcome.specs.Slots.{in_slot}
use Rattle.sch_compiled.specs.declared.plan.Plan.{Plan}
use Rattle.sch_locality_laws.specs.Units.{lets_of}
use Rattle.sch_locality_laws.specs.Locality.{Unchanged}
use Rattle.edit_costs.specs.Dirty.{is_changed, is_touched}
use Rattle.edit_costs.specs.SameOutcome.{same_outcome}
use Rattle.edit_costs.proofs.SameLemmas.{outcome-equal}

-- neither holds where their disjunction doesn't
pub neither : (a b : Bool) → (a || b) ≡ false → (a ≡ false) × (b ≡ false)
neither true b h = absurd (true≢false h)
neither false b h = (refl, h)

pub both : (a b : Bool) → a ≡ true → b ≡ true → (a && b) ≡ true
both true b h k = k
both false b h k = absurd (true≢false (sym h))

module _ (plan : Plan) (T U : Table) (touched : Cell → Bool) where
  unchanged-read : (r : Read) → (is_touched T touched r || is_changed plan T U r) ≡ false → Unchanged plan T U touched r
  unchanged-read (cell c) h = (neither (touched c) false (neither (touched c || false) false h).0).0
  unchanged-read (names_along axis n) h = (neither (list_any touched (cells_of T (names_along axis n))) false h).0
  unchanged-read (variable slot) h =
      outcome-equal (in_slot (lets_of plan T) slot) (in_slot (lets_of plan U) slot)
      (not-false (same_outcome (in_slot (lets_of plan T) slot) (in_slot (lets_of plan U) slot)) h)

  pub unchanged-reads : (xs : List Read) → list_any (λ r. is_touched T touched r || is_changed plan T U r) xs ≡ false →
      Each (Unchanged plan T U touched) xs
  unchanged-reads [] h = tt
  unchanged-reads (r ∷ xs) h =
      let parts = neither (is_touched T touched r || is_changed plan T U r) (list_any (λ x. is_touched T touched x || is_changed plan T U x) xs) h in
      (unchanged-read r parts.0, unchanged-reads xs parts.1)
