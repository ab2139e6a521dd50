-- What was read, as a list and as a set.
use Rattle.std.proofs.Common.{◌≡◌, ◌∙◌, Bool, true, false, ◌||◌, List, [], ◌∷◌, ◌⊎◌, inl, inr, refl, sym, ap, subst}
use Rattle.std.proofs.lemmas.Bool.{false≢true, or_cases, or_left, or_right}
use Rattle.std.specs.Ordering.{eq_by_cmp, is_eq, nat_cmp}
use Rattle.std.specs.Cmp.{Equal-is, nat_cmp_total, tied_itself}
use Rattle.std.specs.FinMap.{nat_cmp-IsAntisymmetric}
use Rattle.std.specs.FinSet.{contains-empty, contains-insert}
use Rattle.std.specs.List.{AllByRecursion as Each}
use Rattle.xp_outcome.specs.Evaluation.{Read, cell, names_along, variable}
use Rattle.xp_outcome.specs.Recorded.{Recorded, cell_cmp, has_read, names_cmp, note, note_all, nothing_read}
use Rattle.xp_outcome.specs.declared.names_along.NamesAlong.{NamesAlong}
use Rattle.xp_outcome.proofs.Sets.{cell_cmp_antisymmetric, cell_cmp_total, names_cmp_antisymmetric, names_cmp_total}
use Rattle.kept_state.specs.Kept.{noted}

abbrev is_read : Read → Read → Bool
is_read (cell c) (cell d) = eq_by_cmp cell_cmp d c
is_read (names_along axis n) (names_along other m) = eq_by_cmp names_cmp (record { axis = other; node = m }) (record { axis = axis; node = n })
is_read (variable slot) (variable other) = eq_by_cmp nat_cmp other slot
is_read _ _ = false

is_read-same : (x r : Read) → is_read x r ≡ true → x ≡ r
is_read-same (cell c) (cell d) is = ap cell (sym (cell_cmp_antisymmetric d c ((Equal-is (cell_cmp d c)).0 is)))
is_read-same (names_along axis n) (names_along other m) is =
    let a : NamesAlong = record { axis = axis; node = n } in
    let b : NamesAlong = record { axis = other; node = m } in
    ap (λ (x : NamesAlong). names_along x.axis x.node) (sym (names_cmp_antisymmetric b a ((Equal-is (names_cmp b a)).0 is)))
is_read-same (variable slot) (variable other) is = ap variable (sym (nat_cmp-IsAntisymmetric other slot ((Equal-is (nat_cmp other slot)).0 is)))
is_read-same _ _ is = absurd (false≢true is)

same-is_read : (x : Read) → is_read x x ≡ true
same-is_read (cell c) = ap is_eq (tied_itself cell_cmp_total c)
same-is_read (names_along axis n) = ap is_eq (tied_itself names_cmp_total (record { axis = axis; node = n }))
same-is_read (variable slot) = ap is_eq (tied_itself nat_cmp_total slot)

-- a read is among those held, or it is the next one
read_more : (held : Recorded) (x r : Read) → has_read (note held x) r ≡ (is_read x r || has_read held r)
read_more held (cell c) (cell d) = contains-insert cell_cmp_total held.cells c d
read_more held (names_along axis n) (names_along other m) =
    contains-insert names_cmp_total held.names (record { axis = axis; node = n }) (record { axis = other; node = m })
read_more held (variable slot) (variable other) = contains-insert nat_cmp_total held.lets slot other
read_more held (cell c) (names_along other m) = refl
read_more held (cell c) (variable other) = refl
read_more held (names_along axis n) (cell d) = refl
read_more held (names_along axis n) (variable other) = refl
read_more held (variable slot) (cell d) = refl
read_more held (variable slot) (names_along other m) = refl

stays_read : (held : Recorded) (xs : List Read) (r : Read) → has_read held r ≡ true → has_read (note_all held xs) r ≡ true
stays_read held [] r is = is
stays_read held (x ∷ xs) r is = stays_read (note held x) xs r (read_more held x r ∙ or_right (is_read x r) (has_read held r) is)

module _ (P : Read → Type 0) where
  each_from : (held : Recorded) (xs : List Read) → ((r : Read) → has_read (note_all held xs) r ≡ true → P r) → Each P xs
  each_from held [] each = tt
  each_from held (x ∷ xs) each =
      (each x (stays_read (note held x) xs x (read_more held x x ∙ or_left (is_read x x) (has_read held x) (same-is_read x))), each_from (note held x) xs each)

  from_each : (held : Recorded) (xs : List Read) → ((r : Read) → has_read held r ≡ true → P r) → Each P xs →
      (r : Read) → has_read (note_all held xs) r ≡ true → P r
  from_each held [] before each r is = before r is
  from_each held (x ∷ xs) before each r is = from_each (note held x) xs next each.1 r is
    where
      next : (y : Read) → has_read (note held x) y ≡ true → P y
      next y there = by (or_cases (is_read x y) (has_read held y) (sym (read_more held x y) ∙ there))
        where
          by : (is_read x y ≡ true) ⊎ (has_read held y ≡ true) → P y
          by (inl same) = subst P (is_read-same x y same) each.0
          by (inr earlier) = before y earlier

  -- what holds of each read of the set holds of each of the list
  pub each_of_set : (xs : List Read) → ((r : Read) → has_read (noted xs) r ≡ true → P r) → Each P xs
  each_of_set xs each = each_from nothing_read xs each

  -- and the other way round
  pub each_of_list : (xs : List Read) → Each P xs → (r : Read) → has_read (noted xs) r ≡ true → P r
  each_of_list xs each r is = from_each nothing_read xs (λ y there. absurd (false≢true (sym (nothing y) ∙ there))) each r is
    where
      nothing : (y : Read) → has_read nothing_read y ≡ false
      nothing (cell c) = contains-empty cell_cmp c
      nothing (names_along axis n) = contains-empty names_cmp (record { axis = axis; node = n })
      nothing (variable slot) = contains-empty nat_cmp slot
