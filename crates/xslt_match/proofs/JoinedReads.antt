-- What was read, added to what was read before: the order in which it is added doesn't matter.
use Rattle.std.proofs.Common.{◌≡◌, ℕ, Bool, true, false, ◌||◌, List, [], ◌∷◌, refl, sym, ◌∙◌, ap}
use Rattle.std.specs.List.{list_any}
use Rattle.std.specs.Ordering.{nat_cmp, eq_by_cmp}
use Rattle.std.specs.Cmp.{nat_cmp_total}
use Rattle.std.specs.FinMap.{nat_cmp-IsAntisymmetric}
use Rattle.std.specs.FinSet.{contains, union, same_set, contains-empty, contains-insert, contains-union}
use Rattle.doc_tree.specs.cell.Cell.{Cell}
use Rattle.xp_outcome.specs.Evaluation.{Read, cell, names_along, variable}
use Rattle.xp_outcome.specs.declared.names_along.NamesAlong.{NamesAlong}
use Rattle.xp_outcome.specs.Recorded.{Recorded, cell_cmp, joined, names_cmp, note, note_all, nothing_read}
use Rattle.xp_outcome.proofs.Sets.{cell_cmp_total, cell_cmp_antisymmetric, names_cmp_total, names_cmp_antisymmetric}
use Rattle.xslt_match.proofs.Filters.{or-false}

or_moved : (a b c : Bool) → ((a || b) || c) ≡ (b || (a || c))
or_moved true true c = refl
or_moved true false c = refl
or_moved false b c = refl

-- whether a read is of a cell, of names along an axis, or of a let
abbrev pub cell_is : Cell → Read → Bool
cell_is q (cell c) = eq_by_cmp cell_cmp q c
cell_is q (names_along axis n) = false
cell_is q (variable slot) = false

abbrev names_is : NamesAlong → Read → Bool
names_is q (cell c) = false
names_is q (names_along axis n) = eq_by_cmp names_cmp q (record { axis = axis; node = n })
names_is q (variable slot) = false

abbrev let_is : ℕ → Read → Bool
let_is q (cell c) = false
let_is q (names_along axis n) = false
let_is q (variable slot) = eq_by_cmp nat_cmp q slot

-- what a recorder has after some reads
pub cells_noted : (q : Cell) (xs : List Read) (held : Recorded) → contains (note_all held xs).cells q ≡ (contains held.cells q || list_any (cell_is q) xs)
cells_noted q [] held = sym (or-false (contains held.cells q))
cells_noted q (cell c ∷ xs) held =
    cells_noted q xs (note held (cell c))
    ∙ ap (λ b. b || list_any (cell_is q) xs) (contains-insert cell_cmp_total held.cells c q)
    ∙ or_moved (eq_by_cmp cell_cmp q c) (contains held.cells q) (list_any (cell_is q) xs)
cells_noted q (names_along axis n ∷ xs) held = cells_noted q xs (note held (names_along axis n))
cells_noted q (variable slot ∷ xs) held = cells_noted q xs (note held (variable slot))

names_noted : (q : NamesAlong) (xs : List Read) (held : Recorded) → contains (note_all held xs).names q ≡ (contains held.names q || list_any (names_is q) xs)
names_noted q [] held = sym (or-false (contains held.names q))
names_noted q (names_along axis n ∷ xs) held =
    names_noted q xs (note held (names_along axis n))
    ∙ ap (λ b. b || list_any (names_is q) xs) (contains-insert names_cmp_total held.names (record { axis = axis; node = n }) q)
    ∙ or_moved (eq_by_cmp names_cmp q (record { axis = axis; node = n })) (contains held.names q) (list_any (names_is q) xs)
names_noted q (cell c ∷ xs) held = names_noted q xs (note held (cell c))
names_noted q (variable slot ∷ xs) held = names_noted q xs (note held (variable slot))

lets_noted : (q : ℕ) (xs : List Read) (held : Recorded) → contains (note_all held xs).lets q ≡ (contains held.lets q || list_any (let_is q) xs)
lets_noted q [] held = sym (or-false (contains held.lets q))
lets_noted q (variable slot ∷ xs) held =
    lets_noted q xs (note held (variable slot))
    ∙ ap (λ b. b || list_any (let_is q) xs) (contains-insert nat_cmp_total held.lets slot q)
    ∙ or_moved (eq_by_cmp nat_cmp q slot) (contains held.lets q) (list_any (let_is q) xs)
lets_noted q (cell c ∷ xs) held = lets_noted q xs (note held (cell c))
lets_noted q (names_along axis n ∷ xs) held = lets_noted q xs (note held (names_along axis n))

-- reads that were recorded alone, and then joined, are recorded
pub joined_noted : (held : Recorded) (xs : List Read) → joined held (note_all nothing_read xs) ≡ note_all held xs
joined_noted held xs = λ i. record { cells = cells i; names = names i; lets = lets i }
  where
    names : union held.names (note_all nothing_read xs).names ≡ (note_all held xs).names
    names = same_set names_cmp_total names_cmp_antisymmetric _ _ (λ q.
        contains-union names_cmp_total held.names (note_all nothing_read xs).names q
        ∙ ap (λ b. contains held.names q || b) (names_noted q xs nothing_read ∙ ap (λ b. b || list_any (names_is q) xs) (contains-empty names_cmp q))
        ∙ sym (names_noted q xs held))

    cells : union held.cells (note_all nothing_read xs).cells ≡ (note_all held xs).cells
    cells = same_set cell_cmp_total cell_cmp_antisymmetric _ _ (λ q.
        contains-union cell_cmp_total held.cells (note_all nothing_read xs).cells q
        ∙ ap (λ b. contains held.cells q || b) (cells_noted q xs nothing_read ∙ ap (λ b. b || list_any (cell_is q) xs) (contains-empty cell_cmp q))
        ∙ sym (cells_noted q xs held))

    lets : union held.lets (note_all nothing_read xs).lets ≡ (note_all held xs).lets
    lets = same_set nat_cmp_total nat_cmp-IsAntisymmetric _ _ (λ q.
        contains-union nat_cmp_total held.lets (note_all nothing_read xs).lets q
        ∙ ap (λ b. contains held.lets q || b) (lets_noted q xs nothing_read ∙ ap (λ b. b || list_any (let_is q) xs) (contains-empty nat_cmp q))
        ∙ sym (lets_noted q xs held))
