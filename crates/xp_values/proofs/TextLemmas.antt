-- Parts of texts: where they stand, and that a text may be cut there.
use Rattle.std.proofs.Common.{◌≡◌, ℕ, ◌+◌, ◌<◌, ◌≤◌, suc, zero, Bool, true, false, cond, List, [], ◌∷◌, length, take, drop, Option, None, Some, option_map, refl, sym, ap, ◌∙◌, subst, true≢false, arith, ltb, ltb-true, ltb-false}
use Rattle.std.specs.Prelude.{IsUtf8, IsCharBoundary, slice_index}
use Rattle.std.proofs.Common.{add-zero}
use Rattle.std.proofs.lemmas.List.{length-take, length-drop}
use Rattle.std.proofs.lemmas.Slice.Eq.{bytes_eq-Decides}
use Rattle.std.proofs.lemmas.Str.{IsUtf8-drop, IsCharBoundary-start, IsCharBoundary-from_take}
use Rattle.memchr.specs.Find.{OccursAt, FindsNeedle}
use Rattle.memchr.proofs.lemmas.MatchLemmas.{OccursAt-part, OccursAt-from_part}
use Rattle.xp_values.specs.Texts.{begins_with, first_place}

begins-occurs : (hay needle : List ℕ) → begins_with hay needle ≡ true → OccursAt hay needle 0
begins-occurs hay needle h =
    let same : needle ≡ take (length needle) hay = (bytes_eq-Decides needle (take (length needle) hay)).0 h in
    OccursAt-from_part hay needle 0 (omega (arith, ap length same, length-take (length needle) hay)) (sym same)

occurs-begins : (hay needle : List ℕ) → OccursAt hay needle 0 → begins_with hay needle ≡ true
occurs-begins hay needle h = (bytes_eq-Decides needle (take (length needle) hay)).1 (sym (OccursAt-part hay needle 0 h))

occurs-tail : (b : ℕ) (hay needle : List ℕ) (k : ℕ) → OccursAt (b ∷ hay) needle (suc k) → OccursAt hay needle k
occurs-tail b hay needle k h = OccursAt-from_part hay needle k (omega (arith, h.fits)) (OccursAt-part (b ∷ hay) needle (suc k) h)

tail-occurs : (b : ℕ) (hay needle : List ℕ) (k : ℕ) → OccursAt hay needle k → OccursAt (b ∷ hay) needle (suc k)
tail-occurs b hay needle k h = OccursAt-from_part (b ∷ hay) needle (suc k) (omega (arith, h.fits)) (OccursAt-part hay needle k h)

abbrev NoneBelow : List ℕ → List ℕ → ℕ → Type 0
NoneBelow hay needle k = (j : ℕ) → j < k → OccursAt hay needle j → ⊥

-- what the first place is: an occurrence with none before it, or no occurrence
abbrev Placed : List ℕ → List ℕ → Option ℕ → Type 0
Placed hay needle None = (j : ℕ) → OccursAt hay needle j → ⊥
Placed hay needle (Some k) = OccursAt hay needle k × NoneBelow hay needle k

not-begins : (hay needle : List ℕ) → begins_with hay needle ≡ false → OccursAt hay needle 0 → ⊥
not-begins hay needle e h = true≢false (sym (occurs-begins hay needle h) ∙ e)

none-shorter : (needle : List ℕ) (j : ℕ) → OccursAt [] needle (suc j) → ⊥
none-shorter needle j h = omega (arith, h.fits)

placed : (hay needle : List ℕ) → Placed hay needle (first_place hay needle)
placed [] needle = by (begins_with [] needle) refl
  where
    by : (b : Bool) → begins_with [] needle ≡ b → Placed [] needle (cond b (Some 0) None)
    by true e = (begins-occurs [] needle e, λ j less h. omega arith)
    by false e = never
      where
        never : (j : ℕ) → OccursAt [] needle j → ⊥
        never zero h = not-begins [] needle e h
        never (suc j) h = none-shorter needle j h
placed (b ∷ hay) needle = by (begins_with (b ∷ hay) needle) refl (first_place hay needle) (placed hay needle)
  where
    by : (t : Bool) → begins_with (b ∷ hay) needle ≡ t → (o : Option ℕ) → Placed hay needle o → Placed (b ∷ hay) needle (cond t (Some 0) (option_map suc o))
    by true e o rest = (begins-occurs (b ∷ hay) needle e, λ j less h. omega arith)
    by false e None rest = never
      where
        never : (j : ℕ) → OccursAt (b ∷ hay) needle j → ⊥
        never zero h = not-begins (b ∷ hay) needle e h
        never (suc j) h = rest j (occurs-tail b hay needle j h)
    by false e (Some k) rest = (tail-occurs b hay needle k rest.0, below)
      where
        below : (j : ℕ) → j < suc k → OccursAt (b ∷ hay) needle j → ⊥
        below zero less h = not-begins (b ∷ hay) needle e h
        below (suc j) less h = rest.1 j (omega arith) (occurs-tail b hay needle j h)

first-same : (hay needle : List ℕ) (k j : ℕ) → Placed hay needle (Some k) → Placed hay needle (Some j) → k ≡ j
first-same hay needle k j p q = by (ltb k j) (ltb j k) refl refl
  where
    by : (s t : Bool) → ltb k j ≡ s → ltb j k ≡ t → k ≡ j
    by true t es et = absurd (q.1 k (ltb-true k j es) p.0)
    by false true es et = absurd (p.1 j (ltb-true j k et) q.0)
    by false false es et = omega (arith, ltb-false k j es, ltb-false j k et)

-- what a search finds is the first place
pub found_place : (hay needle : List ℕ) (r : Option ℕ) → FindsNeedle hay needle 0 r → r ≡ first_place hay needle
found_place hay needle r h = by r (first_place hay needle) h (placed hay needle)
  where
    by : (r o : Option ℕ) → FindsNeedle hay needle 0 r → Placed hay needle o → r ≡ o
    by None None h p = refl
    by None (Some k) h p = absurd (h k (omega arith) (omega (arith, p.0.fits)) p.0)
    by (Some k) None h p = absurd (p k h.1)
    by (Some k) (Some j) h p = ap Some (first-same hay needle k j (h.1, λ i less o. h.0.before i (omega arith) less o) p)

-- a text may be cut before and after the first place of another
pub record Cuts (text part : List ℕ) (k : ℕ) : Type 0 where
  pub before : IsCharBoundary text k
  pub after : IsCharBoundary (drop k text) (length part)
  pub fits : k + length part ≤ length text

before_place : (text part : List ℕ) (k : ℕ) → IsUtf8 text → IsUtf8 part → Placed text part (Some k) → IsCharBoundary text k
before_place text [] zero u v p = IsCharBoundary-start text u
before_place text [] (suc k) u v p =
    let here : OccursAt text [] 0 = record { fits = omega arith; reads = λ j less. absurd (omega arith) } in absurd (p.1 0 (omega arith) here)
before_place text (b ∷ part) k u v p =
    let read : slice_index text k ≡ b = rw add-zero at (p.0.reads 0 (omega arith)) in
    let start = (IsCharBoundary-start (b ∷ part) v).1 (omega arith) in
    (omega (arith, p.0.fits), λ less high. rw read (start (rw read at high)))

pub place_cuts : (text part : List ℕ) (k : ℕ) → IsUtf8 text → IsUtf8 part → first_place text part ≡ Some k → Cuts text part k
place_cuts text part k u v e =
    let p : Placed text part (Some k) = subst (Placed text part) e (placed text part) in
    let cut : IsCharBoundary text k = before_place text part k u v p in
    let same : take (length part) (drop k text) ≡ part = OccursAt-part text part k p.0 in
    let rest : IsCharBoundary (drop k text) (length part) =
    IsCharBoundary-from_take (drop k text) (length part) (IsUtf8-drop text k u cut) (omega (arith, p.0.fits, length-drop k text)) (subst IsUtf8 (sym same) v) in
    record { before = cut; after = rest; fits = p.0.fits }
