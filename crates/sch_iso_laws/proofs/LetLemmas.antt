-- Slots of lets, and what a unit keeps of its reads, where the numbers of nodes are changed.
use Rattle.std.proofs.Common.{◌≡◌, ℕ, ◌+◌, ◌-◌, zero, suc, Bool, true, false, cond, List, [], ◌∷◌, ◌++◌, length, map, set, replicate, Result, Option, None, Some, refl, sym, ap, ◌∙◌}
use Rattle.std.proofs.lemmas.List.{length-map, map-append, map-set}
use Rattle.std.specs.Prelude.{filter, option_map}
use Rattle.xp_outcome.specs.Evaluation.{Evaluation, Read, cell, names_along, variable}
use Rattle.xp_outcome.specs.Slots.{reaching, with_slot}
use Rattle.xp_values.specs.declared.values.EvalFault.{EvalFault}
use Rattle.xp_values.specs.declared.values.Value.{Value}
use Rattle.xp_meaning.specs.Evaluation.{Lets}
use Rattle.xp_iso_laws.specs.Moved.{moved_lets, moved_outcome, moved_read}
use Rattle.xp_iso_laws.specs.Moves.{Moves}
use Rattle.sch_units.specs.Units.{is_kept, keeping}

empty-moved : {A B : Type 0} (g : A → B) (k : ℕ) → map (option_map g) (replicate k None) ≡ replicate k None
empty-moved g zero = refl
empty-moved {B = B} g (suc k) = ap (λ (l : List (Option B)). None ∷ l) (empty-moved g k)

reaching-moved : (f : ℕ → ℕ) (L : Lets) (k : ℕ) → reaching (moved_lets f L) k ≡ moved_lets f (reaching L k)
reaching-moved f L k =
    ap (λ (n : ℕ). moved_lets f L ++ replicate (k + 1 - n) None) (length-map L (option_map (moved_outcome f)))
    ∙ (ap (λ (l : Lets). moved_lets f L ++ l) (sym (empty-moved (moved_outcome f) (k + 1 - length L)))
    ∙ sym (map-append (option_map (moved_outcome f)) L (replicate (k + 1 - length L) None)))

-- one let more
pub put-moved : (f : ℕ → ℕ) (L : Lets) (k : ℕ) (o : Result Value EvalFault) → with_slot (moved_lets f L) k (moved_outcome f o) ≡ moved_lets f (with_slot L k o)
put-moved f L k o =
    ap (λ (l : Lets). set l k (Some (moved_outcome f o))) (reaching-moved f L k) ∙ sym (map-set (option_map (moved_outcome f)) (reaching L k) k (Some o))

pub next-moved : (f : ℕ → ℕ) (L : Lets) (o : Result Value EvalFault) → moved_lets f L ++ Some (moved_outcome f o) ∷ [] ≡ moved_lets f (L ++ Some o ∷ [])
next-moved f L o = sym (map-append (option_map (moved_outcome f)) L (Some o ∷ []))

-- whether a read is kept isn't a matter of numbers
kept-read : (f : ℕ → ℕ) (count : ℕ) (x : Read) → is_kept count (moved_read f x) ≡ is_kept count x
kept-read f count (cell c) = refl
kept-read f count (names_along axis n) = refl
kept-read f count (variable k) = refl

kept-moved : (f : ℕ → ℕ) (count : ℕ) (xs : List Read) → filter (is_kept count) (map (moved_read f) xs) ≡ map (moved_read f) (filter (is_kept count) xs)
kept-moved f count [] = refl
kept-moved f count (x ∷ xs) = by (is_kept count x) (kept-read f count x) (kept-moved f count xs)
  where
    by : (b : Bool) → is_kept count (moved_read f x) ≡ b → filter (is_kept count) (map (moved_read f) xs) ≡ map (moved_read f) (filter (is_kept count) xs) →
        cond (is_kept count (moved_read f x)) (moved_read f x ∷ filter (is_kept count) (map (moved_read f) xs)) (filter (is_kept count) (map (moved_read f) xs))
        ≡ map (moved_read f) (cond b (x ∷ filter (is_kept count) xs) (filter (is_kept count) xs))
    by true e more = ap (λ c. cond c (moved_read f x ∷ filter (is_kept count) (map (moved_read f) xs)) (filter (is_kept count) (map (moved_read f) xs))) e ∙ ap (λ l. moved_read f x ∷ l) more
    by false e more = ap (λ c. cond c (moved_read f x ∷ filter (is_kept count) (map (moved_read f) xs)) (filter (is_kept count) (map (moved_read f) xs))) e ∙ more

pub moves-keeping : (f : ℕ → ℕ) {F A B : Type 0} (change : A → B) (count : ℕ) (before : Evaluation F A) (after : Evaluation F B) →
    Moves f change before after → Moves f change (keeping count before) (keeping count after)
unfolding keeping
moves-keeping f change count before after m = record {
  answer = m.answer;
  reads = ap (filter (is_kept count)) m.reads ∙ kept-moved f count before.reads;
  work = m.work;
}
