-- What `keeping` leaves of an evaluation.
use Rattle.std.proofs.Common.{◌≡◌, ℕ, true, false, cond, List, [], ◌∷◌, refl}
use Rattle.std.specs.Prelude.{filter, nat_lt}
use Rattle.std.specs.List.{AllByRecursion as Each}
use Rattle.std.proofs.lemmas.Bool.{ltb-true}
use Rattle.xp_outcome.specs.Evaluation.{Read, cell, names_along, variable, Evaluation, visit}
use Rattle.xp_meaning.proofs.Answers.{answer_visit}
use Rattle.sch_units.specs.Units.{is_kept, keeping}
use Rattle.sch_units.specs.Laws.{IsInForce}

pub kept_in_force : (count : ℕ) (reads : List Read) → Each (IsInForce count) (filter (is_kept count) reads)
kept_in_force count [] = tt
kept_in_force count (cell c ∷ reads) = (tt, kept_in_force count reads)
kept_in_force count (names_along axis n ∷ reads) = (tt, kept_in_force count reads)
kept_in_force count (variable slot ∷ reads) =
    elim (nat_lt slot count) as (λ b. nat_lt slot count ≡ b → Each (IsInForce count) (cond b (variable slot ∷ filter (is_kept count) reads) (filter (is_kept count) reads))) [
      | true ↦ λ below. (ltb-true slot count below, kept_in_force count reads)
      | false ↦ λ _. kept_in_force count reads
    ] refl

-- the reads are those that are kept
pub keeping-reads : {F A : Type 0} (count : ℕ) (m : Evaluation F A) → (keeping count m).reads ≡ filter (is_kept count) m.reads
unfolding keeping
keeping-reads count m = refl

-- the answer stays
pub keeping-answer : {F A : Type 0} (count : ℕ) (m : Evaluation F A) → (keeping count (visit m)).answer ≡ m.answer
unfolding keeping
keeping-answer count m = answer_visit m
