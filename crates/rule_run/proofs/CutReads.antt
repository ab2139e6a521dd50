-- What a recorder holds without the lets of rules.
use Rattle.std.proofs.Common.{◌≡◌, ℕ, Bool, true, false, cond, ◌||◌, ◌&&◌, List, [], ◌∷◌, Result, Ok, Err, refl, sym, ◌∙◌, ap}
use Rattle.std.proofs.lemmas.List.Elements.{filter-append}
use Rattle.std.specs.Prelude.{filter, nat_lt}
use Rattle.std.specs.Ordering.{nat_cmp, eq_by_cmp}
use Rattle.std.specs.declared.cmp.Ordering.TheVariants.{Equal}
use Rattle.std.specs.Cmp.{Equal-is, nat_cmp_total}
use Rattle.std.specs.FinMap.{nat_cmp-IsAntisymmetric}
use Rattle.std.specs.FinSet.{contains, contains-empty, contains-insert, contains-retain, empty, insert, retain, same_set}
use Rattle.xp_outcome.specs.Evaluation.{Read, cell, names_along, variable, Evaluation}
use Rattle.xp_outcome.specs.Recorded.{LetSet, Recorded, note, note_all, nothing_read, without_lets_from}
use Rattle.xp_outcome.specs.Running.{Stop, faulted, no_memory, Answered, Faulted, CutShort, Ran}
use Rattle.sch_units.specs.Units.{is_kept, keeping}

and_false : (a : Bool) → (a && false) ≡ false
and_false true = refl
and_false false = refl

passes_first : (e c a : Bool) → (e ≡ true → a ≡ true) → ((e || c) && a) ≡ (e || (c && a))
passes_first true c a same = same refl
passes_first false c a same = refl

fails_first : (e c a : Bool) → (e ≡ true → a ≡ false) → ((e || c) && a) ≡ (c && a)
fails_first true c a same = same refl ∙ sym (and_false c) ∙ ap (λ b. c && b) (sym (same refl))
fails_first false c a same = refl

module _ (p : ℕ → Bool) where
  alike : (q x : ℕ) → nat_cmp q x ≡ Equal → p x ≡ p q
  alike q x tie = ap p (sym (nat_cmp-IsAntisymmetric q x tie))

  by_tie : (q k : ℕ) → eq_by_cmp nat_cmp q k ≡ true → p q ≡ p k
  by_tie q k tie = sym (alike q k ((Equal-is (nat_cmp q k)).0 tie))

  retain_empty : retain {R = nat_cmp} empty p ≡ empty
  retain_empty = same_set nat_cmp_total nat_cmp-IsAntisymmetric _ _ (λ q.
      contains-retain empty p q (alike q) ∙ ap (λ b. b && p q) (contains-empty nat_cmp q) ∙ sym (contains-empty nat_cmp q))

  retain_kept : (s : LetSet) (k : ℕ) → p k ≡ true → retain (insert s k) p ≡ insert (retain s p) k
  retain_kept s k keeps = same_set nat_cmp_total nat_cmp-IsAntisymmetric _ _ (λ q.
      contains-retain (insert s k) p q (alike q)
      ∙ ap (λ b. b && p q) (contains-insert nat_cmp_total s k q)
      ∙ passes_first (eq_by_cmp nat_cmp q k) (contains s q) (p q) (λ tie. by_tie q k tie ∙ keeps)
      ∙ ap (λ b. eq_by_cmp nat_cmp q k || b) (sym (contains-retain s p q (alike q)))
      ∙ sym (contains-insert nat_cmp_total (retain s p) k q))

  retain_dropped : (s : LetSet) (k : ℕ) → p k ≡ false → retain (insert s k) p ≡ retain s p
  retain_dropped s k drops = same_set nat_cmp_total nat_cmp-IsAntisymmetric _ _ (λ q.
      contains-retain (insert s k) p q (alike q)
      ∙ ap (λ b. b && p q) (contains-insert nat_cmp_total s k q)
      ∙ fails_first (eq_by_cmp nat_cmp q k) (contains s q) (p q) (λ tie. by_tie q k tie ∙ drops)
      ∙ sym (contains-retain s p q (alike q)))

-- what was read but for the lets, which are others
abbrev with_lets : Recorded → LetSet → Recorded
with_lets held lets = record { cells = held.cells; names = held.names; lets = lets }

module _ (count : ℕ) where
  -- one let more
  one_more : (held : Recorded) (slot : ℕ) (xs : List Read) →
      note_all (without_lets_from count (note held (variable slot))) (filter (is_kept count) xs)
      ≡ note_all (without_lets_from count held) (filter (is_kept count) (variable slot ∷ xs))
  one_more held slot xs =
      elim (nat_lt slot count) as (λ b. nat_lt slot count ≡ b →
      note_all (without_lets_from count (note held (variable slot))) (filter (is_kept count) xs)
      ≡ note_all (without_lets_from count held) (cond b (variable slot ∷ filter (is_kept count) xs) (filter (is_kept count) xs))) [
        | true ↦ λ keeps.
            ap (λ lets. note_all (with_lets held lets) (filter (is_kept count) xs)) (retain_kept (λ s. nat_lt s count) held.lets slot keeps)
        | false ↦ λ drops.
            ap (λ lets. note_all (with_lets held lets) (filter (is_kept count) xs)) (retain_dropped (λ s. nat_lt s count) held.lets slot drops)
      ] refl

  -- the reads without the lets of rules are those that are kept
  pub cut_reads : (held : Recorded) (xs : List Read) → without_lets_from count (note_all held xs) ≡ note_all (without_lets_from count held) (filter (is_kept count) xs)
  cut_reads held [] = refl
  cut_reads held (cell c ∷ xs) = cut_reads (note held (cell c)) xs
  cut_reads held (names_along axis n ∷ xs) = cut_reads (note held (names_along axis n)) xs
  cut_reads held (variable slot ∷ xs) = cut_reads (note held (variable slot)) xs ∙ one_more held slot xs

  cut_nothing : without_lets_from count nothing_read ≡ nothing_read
  cut_nothing = ap (with_lets nothing_read) (retain_empty (λ s. nat_lt s count))

  from_nothing : (now : Recorded) (xs : List Read) → now ≡ note_all nothing_read xs → without_lets_from count now ≡ note_all nothing_read (filter (is_kept count) xs)
  from_nothing now xs is =
      ap (without_lets_from count) is ∙ cut_reads nothing_read xs ∙ ap (λ held. note_all held (filter (is_kept count) xs)) cut_nothing

  -- a run whose recorder is cut afterwards is one that keeps the reads that stay
  pub ran_keeping : {F A : Type 0} (m : Evaluation F A) (r : Result A (Stop F)) {now : Recorded} {before after : ℕ} →
      Ran m r nothing_read now before after → Ran (keeping count m) r nothing_read (without_lets_from count now) before after
  unfolding keeping
  ran_keeping m (Ok v) {now} {before} {after} h =
      let c : Answered m v nothing_read now before after = h.computes in
      record { computes = record { answer = c.answer; reads = from_nothing now m.reads c.reads; steps = c.steps } }
  ran_keeping m (Err (faulted f)) {now} {before} {after} h =
      let c : Faulted m f nothing_read now before after = h.computes in
      record { computes = record { answer = c.answer; reads = from_nothing now m.reads c.reads; later = c.later; steps = c.steps } }
  ran_keeping m (Err no_memory) {now} {before} {after} h =
      let c : CutShort m nothing_read now before after = h.computes in
      record {
        computes = record {
          recorded = filter (is_kept count) c.recorded;
          unread = filter (is_kept count) c.unread;
          reads = ap (filter (is_kept count)) c.reads ∙ filter-append (is_kept count) c.recorded c.unread;
          first = from_nothing now c.recorded c.first;
          later = c.later;
          steps = c.steps;
        };
      }
