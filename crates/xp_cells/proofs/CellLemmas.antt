-- Which cells stand in the set of every cell.
use Rattle.std.proofs.Common.{◌≡◌, ◌∙◌, Bool, true, false, ◌||◌, List, [], ◌∷◌, ◌++◌, refl, sym, ap}
use Rattle.std.proofs.lemmas.List.Folds.{list_any-append}
use Rattle.std.specs.Prelude.{IfOk, Err, Ok, Result}
use Rattle.std.specs.FinSet.{contains, contains-empty, contains-from_list, contains-insert, contains-union, empty, from_list, items, same_set}
use Rattle.std.specs.List.{flat_map, list_any}
use Rattle.std.specs.Ordering.{eq_by_cmp}
use Rattle.doc_tree.specs.cell.Cell.{Cell}
use Rattle.doc_tree.specs.Table.{Table}
use Rattle.xp_outcome.specs.declared.names_along.NamesAlong.{NamesAlong}
use Rattle.xp_outcome.specs.Cells.{cells_of}
use Rattle.xp_outcome.specs.Evaluation.{Read, cell, names_along, variable}
use Rattle.xp_outcome.specs.Recorded.{CellSet, NamesSet, Recorded, cell_cmp, note, note_all, nothing_read}
use Rattle.xp_outcome.proofs.Sets.{cell_cmp_antisymmetric, cell_cmp_total, names_cmp_antisymmetric, names_cmp_total}
use Rattle.xp_cells.specs.EveryCell.{NotedCellsAreRead, every_cell, names_for}
use Rattle.xp_outcome.proofs.SetTests.{any_from_list, any_insert}

or_none : (a : Bool) → a ≡ (a || false)
or_none true = refl
or_none false = refl

or_over : (a b c : Bool) → ((a || b) || c) ≡ (a || (b || c))
or_over true b c = refl
or_over false b c = refl

-- one more on either side
more_first : (new a b : Bool) → ((new || a) || b) ≡ ((a || b) || (new || false))
more_first true true b = refl
more_first true false true = refl
more_first true false false = refl
more_first false a b = or_none (a || b)

more_last : (new a b : Bool) → (a || (new || b)) ≡ ((a || b) || new)
more_last new true b = refl
more_last true false true = refl
more_last true false false = refl
more_last false false b = or_none b

any-flat_map : {A B : Type 0} (p : B → Bool) (f : A → List B) (xs : List A) → list_any p (flat_map f xs) ≡ list_any (λ x. list_any p (f x)) xs
any-flat_map p f [] = refl
any-flat_map p f (x ∷ xs) = list_any-append p (f x) (flat_map f xs) ∙ ap (λ b. list_any p (f x) || b) (any-flat_map p f xs)

-- whether a cell is among some
abbrev is_among : Cell → List Cell → Bool
is_among c cells = list_any (eq_by_cmp cell_cmp c) cells

module _ (T : Table) (c : Cell) where
  -- whether an item stands for a cell, and whether some item of a set does
  abbrev stands_for : NamesAlong → Bool
  stands_for along = is_among c (names_for T along)

  abbrev named_in : NamesSet → Bool
  named_in names = list_any stands_for (items names)

  every-contains : (held : Recorded) → contains (every_cell T held) c ≡ (contains held.cells c || named_in held.names)
  every-contains held =
      let names : List Cell = flat_map (names_for T) (items held.names) in
      contains-union cell_cmp_total held.cells (from_list names) c
      ∙ ap (λ b. contains held.cells c || b)
      (contains-from_list cell_cmp_total names c ∙ any-flat_map (eq_by_cmp cell_cmp c) (names_for T) (items held.names))

  listed-contains : (held : Recorded) (cells : List Cell) (names : List NamesAlong) →
      from_list cells ≡ held.cells → from_list names ≡ held.names →
      contains (from_list {R = cell_cmp} (cells ++ flat_map (names_for T) names)) c ≡ (contains held.cells c || named_in held.names)
  listed-contains held cells names same named =
      let one : is_among c cells ≡ contains held.cells c =
      sym (contains-from_list cell_cmp_total cells c) ∙ ap (λ (s : CellSet). contains s c) same in
      let along : is_among c (flat_map (names_for T) names) ≡ named_in held.names =
      any-flat_map (eq_by_cmp cell_cmp c) (names_for T) names
      ∙ sym (any_from_list names_cmp_total names_cmp_antisymmetric stands_for names) ∙ ap named_in named in
      contains-from_list cell_cmp_total (cells ++ flat_map (names_for T) names) c
      ∙ list_any-append (eq_by_cmp cell_cmp c) cells (flat_map (names_for T) names)
      ∙ (λ i. one i || along i)

  noted : (held : Recorded) (x : Read) →
      (contains (note held x).cells c || named_in (note held x).names)
      ≡ ((contains held.cells c || named_in held.names) || is_among c (cells_of T x))
  noted held (cell d) =
      ap (λ b. b || named_in held.names) (contains-insert cell_cmp_total held.cells d c)
      ∙ more_first (eq_by_cmp cell_cmp c d) (contains held.cells c) (named_in held.names)
  noted held (names_along axis n) =
      ap (λ b. contains held.cells c || b)
      (any_insert names_cmp_total names_cmp_antisymmetric stands_for held.names (record { axis = axis; node = n }))
      ∙ more_last (is_among c (cells_of T (names_along axis n))) (contains held.cells c) (named_in held.names)
  noted held (variable slot) = or_none (contains held.cells c || named_in held.names)

  all_noted : (reads : List Read) (held : Recorded) →
      (contains (note_all held reads).cells c || named_in (note_all held reads).names)
      ≡ ((contains held.cells c || named_in held.names) || list_any (λ x. is_among c (cells_of T x)) reads)
  all_noted [] held = or_none (contains held.cells c || named_in held.names)
  all_noted (x ∷ xs) held =
      all_noted xs (note held x)
      ∙ ap (λ b. b || list_any (λ y. is_among c (cells_of T y)) xs) (noted held x)
      ∙ or_over (contains held.cells c || named_in held.names) (is_among c (cells_of T x)) (list_any (λ y. is_among c (cells_of T y)) xs)

  none_noted : (contains {R = cell_cmp} empty c || named_in empty) ≡ false
  none_noted = λ i. contains-empty cell_cmp c i || any_from_list names_cmp_total names_cmp_antisymmetric stands_for [] i

-- what follows of a value, where there is one
pub if_ok : {A E : Type 0} {P Q : A → Type 0} (r : Result A E) → ((v : A) → P v → Q v) → IfOk r P → IfOk r Q
if_ok (Ok v) next h = next v h
if_ok (Err e) next h = tt

-- a list of the cells, and behind them of the names along the axes
pub cells_listed : (T : Table) (held : Recorded) (cells : List Cell) (names : List NamesAlong) →
    from_list cells ≡ held.cells → from_list names ≡ held.names →
    from_list {R = cell_cmp} (cells ++ flat_map (names_for T) names) ≡ every_cell T held
cells_listed T held cells names same named =
    same_set cell_cmp_total cell_cmp_antisymmetric _ _ (λ c. listed-contains T c held cells names same named ∙ sym (every-contains T c held))

pub noted_are_read : NotedCellsAreRead
noted_are_read T reads =
    same_set cell_cmp_total cell_cmp_antisymmetric _ _ (λ c.
    every-contains T c (note_all nothing_read reads)
    ∙ all_noted T c reads nothing_read
    ∙ ap (λ b. b || list_any (λ x. is_among c (cells_of T x)) reads) (none_noted T c)
    ∙ sym (contains-from_list cell_cmp_total (flat_map (cells_of T) reads) c ∙ any-flat_map (eq_by_cmp cell_cmp c) (cells_of T) reads))
