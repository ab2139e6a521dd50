-- What is held: the cells that aren't covered, with names along upward axes one by one, and the names along the others.
use Rattle.std.proofs.Common.{◌≡◌, ℕ, Bool, true, false, not, ◌&&◌, ◌||◌, cond, List, [], ◌∷◌, refl, sym, ap, ◌∙◌, ⊎_elim}
use Rattle.std.specs.Prelude.{filter, map}
use Rattle.std.specs.FinSet.{contains, contains-empty, contains-from_list, contains-union, empty, from_list, items, retain, same_set}
use Rattle.std.specs.List.{list_any}
use Rattle.std.specs.Ordering.{eq_by_cmp}
use Rattle.std.proofs.lemmas.Bool.{false_from_ne_true, false≢true, or_cases}
use Rattle.doc_tree.specs.cell.Cell.{Cell}
use Rattle.doc_tree.specs.cell.Cell.TheVariants.{Name, Shape, Text}
use Rattle.doc_tree.specs.Laws.{HasWaysUp}
use Rattle.doc_tree.specs.Table.{Table, kind_of}
use Rattle.doc_axes.specs.Axes.{axis_nodes}
use Rattle.doc_axes.specs.NodeTests.{is_principal}
use Rattle.xp_outcome.specs.Recorded.{CellSet, NamesSet, Recorded, cell_cmp, names_cmp}
use Rattle.xp_outcome.specs.declared.names_along.NamesAlong.{NamesAlong}
use Rattle.xp_outcome.proofs.Sets.{cell_cmp_antisymmetric, cell_cmp_total, from_list-filter, names_cmp_antisymmetric, names_cmp_total}
use Rattle.cover_laws.specs.Covering.{HeldAlike, is_upward, names_at, other_names, spelled_cells, upward_cells}
use Rattle.xp_outcome.proofs.SetTests.{any_from_list, any_joined, none_in, tied}
use Rattle.cell_covers.specs.Bare.{IsBare}
use Rattle.cell_covers.specs.inner.Dropping.{Leaves, StandsFor, is_covered, is_wide}
use Rattle.cell_covers.specs.inner.Naming.{with_names}
use Rattle.cell_covers.proofs.DropLemmas.{covers-wide, left_alike, left_bare}
use Rattle.cell_covers.proofs.NamingLemmas.{names-cells, names-lets, names-names}

-- the cell is a name along an upward axis
abbrev is_spelled : Table → List NamesAlong → Cell → Bool
is_spelled T rest c = list_any (λ a. list_any (eq_by_cmp cell_cmp c) (cond (is_upward a.axis) (names_at T a) [])) rest

-- it is the name of a node
module _ (test : Cell → Bool) (names : (n : ℕ) → test (Name n) ≡ false) (c : Cell) where
  named : (ns : List ℕ) → list_any (eq_by_cmp cell_cmp c) (map Name ns) ≡ true → test c ≡ false
  named [] h = absurd (false≢true h)
  named (n ∷ ns) h =
      ⊎_elim (λ (e : eq_by_cmp cell_cmp c (Name n) ≡ true). ap test (tied cell_cmp_total cell_cmp_antisymmetric c (Name n) e) ∙ names n)
      (named ns) (or_cases (eq_by_cmp cell_cmp c (Name n)) (list_any (eq_by_cmp cell_cmp c) (map Name ns)) h)

  module _ (T : Table) where
    spelled-at : (a : NamesAlong) (up : Bool) → list_any (eq_by_cmp cell_cmp c) (cond up (names_at T a) []) ≡ true → test c ≡ false
    spelled-at a true h = named (filter (λ n. is_principal a.axis (kind_of T n)) (axis_nodes T a.axis a.node)) h
    spelled-at a false h = absurd (false≢true h)

    spelled-named : (rest : List NamesAlong) → is_spelled T rest c ≡ true → test c ≡ false
    spelled-named [] h = absurd (false≢true h)
    spelled-named (a ∷ rest) h =
        ⊎_elim (spelled-at a (is_upward a.axis)) (spelled-named rest)
        (or_cases (list_any (eq_by_cmp cell_cmp c) (cond (is_upward a.axis) (names_at T a) [])) (is_spelled T rest c) h)

    -- what passes a test that no name does isn't spelled out
    unspelled : (rest : List NamesAlong) → test c ≡ true → is_spelled T rest c ≡ false
    unspelled rest is = false_from_ne_true (is_spelled T rest c) (λ h. false≢true (sym (spelled-named rest h) ∙ is))

or-nothing : (a b : Bool) → b ≡ false → (a || b) ≡ a
or-nothing true b e = refl
or-nothing false b e = e

-- what is spelled out is left in where it isn't covered
left-in : (a b spelled : Bool) → (spelled ≡ true → b ≡ false) → ((a && not b) || spelled) ≡ ((a || spelled) && not b)
left-in true false spelled free = refl
left-in true true false free = refl
left-in true true true free = absurd (false≢true (sym (free refl)))
left-in false false false free = refl
left-in false false true free = refl
left-in false true false free = refl
left-in false true true free = absurd (false≢true (sym (free refl)))

covers-no-name : (T : Table) (shapes texts : List ℕ) (n : ℕ) → is_covered T shapes texts (Name n) ≡ false
covers-no-name T shapes texts n = refl

wide-no-name : (n : ℕ) → is_wide (Name n) ≡ false
wide-no-name n = refl

module _ (T : Table) (ways : HasWaysUp T) (reads : Recorded) (names : List NamesAlong) (are : from_list {R = names_cmp} names ≡ reads.names)
    (shapes texts : List ℕ) (stands : StandsFor reads.cells shapes texts) (before : Recorded)
    (left : Leaves (is_covered T shapes texts) reads.cells before.cells) (none : before.names ≡ empty) (lets : before.lets ≡ reads.lets) where
  abbrev held : Recorded
  held = with_names T before names

  spelled : (c : Cell) → contains (spelled_cells T reads) c ≡ (contains reads.cells c || is_spelled T names c)
  spelled c =
      contains-union cell_cmp_total reads.cells (from_list (upward_cells T reads.names)) c
      ∙ ap (λ (b : Bool). contains reads.cells c || b)
      (contains-from_list cell_cmp_total (upward_cells T reads.names) c
      ∙ any_joined (eq_by_cmp cell_cmp c) (λ a. cond (is_upward a.axis) (names_at T a) []) (items reads.names)
      ∙ ap (λ (s : NamesSet). list_any (λ a. list_any (eq_by_cmp cell_cmp c) (cond (is_upward a.axis) (names_at T a) [])) (items s)) (sym are)
      ∙ any_from_list names_cmp_total names_cmp_antisymmetric (λ a. list_any (eq_by_cmp cell_cmp c) (cond (is_upward a.axis) (names_at T a) []))
      names)

  all-stand : StandsFor (spelled_cells T reads) shapes texts
  all-stand = record {
    shapes_are = λ n. stands.shapes_are n ∙ sym (spelled (Shape n)
        ∙ or-nothing (contains reads.cells (Shape n)) (is_spelled T names (Shape n)) (unspelled is_wide wide-no-name (Shape n) T names refl));
    texts_are = λ n. stands.texts_are n ∙ sym (spelled (Text n)
        ∙ or-nothing (contains reads.cells (Text n)) (is_spelled T names (Text n)) (unspelled is_wide wide-no-name (Text n) T names refl));
  }

  all-left : Leaves (is_covered T shapes texts) (spelled_cells T reads) held.cells
  all-left c =
      names-cells T before names c
      ∙ ap (λ (b : Bool). b || is_spelled T names c) (left c)
      ∙ left-in (contains reads.cells c) (is_covered T shapes texts c) (is_spelled T names c)
      (λ h. spelled-named (is_covered T shapes texts) (covers-no-name T shapes texts) c T names h)
      ∙ sym (ap (λ (b : Bool). b && not (is_covered T shapes texts c)) (spelled c))

  others : held.names ≡ other_names reads.names
  others =
      same_set names_cmp_total names_cmp_antisymmetric held.names (from_list (filter (λ a. not (is_upward a.axis)) names)) (λ b.
      names-names T before names b
      ∙ ap (λ (v : Bool). v || list_any (eq_by_cmp names_cmp b) (filter (λ a. not (is_upward a.axis)) names))
      (ap (λ (s : NamesSet). contains s b) none ∙ contains-empty names_cmp b)
      ∙ sym (contains-from_list names_cmp_total (filter (λ a. not (is_upward a.axis)) names) b))
      ∙ from_list-filter names_cmp_total names_cmp_antisymmetric (λ a. not (is_upward a.axis)) names
      ∙ ap (λ (s : NamesSet). retain s (λ a. not (is_upward a.axis))) are

  pub held-alike : HeldAlike T held reads
  held-alike = record {
    lets = names-lets T before names ∙ lets;
    cells = left_alike T ways (spelled_cells T reads) held.cells shapes texts all-stand all-left;
    names = others;
  }

  pub held-bare : IsBare T held.cells
  held-bare = left_bare T ways (spelled_cells T reads) held.cells shapes texts all-stand all-left

-- What is held as it was read: no cell is wide, and no names lead upward

not-either : (a b : Bool) → (not a && not b) ≡ true → (a ≡ false) × (b ≡ false)
not-either true b h = absurd (false≢true h)
not-either false true h = absurd (false≢true h)
not-either false false h = (refl, refl)

module _ (reads : Recorded)
    (plain : (not (list_any is_wide (items reads.cells)) && not (list_any (λ along. is_upward along.axis) (items reads.names))) ≡ true) where
  parts : (list_any is_wide (items reads.cells) ≡ false) × (list_any (λ along. is_upward along.axis) (items reads.names) ≡ false)
  parts = not-either (list_any is_wide (items reads.cells)) (list_any (λ along. is_upward along.axis) (items reads.names)) plain

  pub none-upward : list_any (λ along. is_upward along.axis) (items reads.names) ≡ false
  none-upward = parts.1

  pub plain-bare : (T : Table) → IsBare T reads.cells
  plain-bare T d c there other apart = covers-wide T d c (none_in cell_cmp_total cell_cmp_antisymmetric is_wide reads.cells d parts.0 there)

-- whether an item of a set passes, by a list that stands for it
pub wide-told : (s : CellSet) (cells : List Cell) → from_list {R = cell_cmp} cells ≡ s → list_any is_wide cells ≡ list_any is_wide (items s)
wide-told s cells are =
    sym (any_from_list cell_cmp_total cell_cmp_antisymmetric is_wide cells) ∙ ap (λ (t : CellSet). list_any is_wide (items t)) are

pub upward-told : (s : NamesSet) (names : List NamesAlong) → from_list {R = names_cmp} names ≡ s →
    list_any (λ along. is_upward along.axis) names ≡ list_any (λ along. is_upward along.axis) (items s)
upward-told s names are =
    sym (any_from_list names_cmp_total names_cmp_antisymmetric (λ along. is_upward along.axis) names)
    ∙ ap (λ (t : NamesSet). list_any (λ along. is_upward along.axis) (items t)) are
