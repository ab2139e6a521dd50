-- The names of nodes and the other cells: each part is what it should be, and both are all.
use Rattle.std.proofs.Common.{◌≡◌, ◌∙◌, ℕ, ◌==◌, Bool, true, false, not, ◌||◌, ◌&&◌, List, [], ◌∷◌, ◌++◌, Result, Ok, Err, OnOk, take, get_or, length, ◌<◌, ◌≤◌, ◌+◌, refl, sym, ap}
use Rattle.std.proofs.lemmas.List.{take_all}
use Rattle.std.proofs.lemmas.List.Folds.{list_any-append, list_any_more}
use Rattle.doc_tree.specs.cell.Cell.{Cell}
use Rattle.cell_index.specs.Cells.{is_among, is_cell}
use Rattle.cell_index.specs.Index.{Adds, has}
use Rattle.cell_index.proofs.CellLemmas.{is_cell-is}
use Rattle.read_index.specs.inner.Parting.{AddsPart, AddsToBoth, is_name, is_of_part}

and_false : (a : Bool) → (a && false) ≡ false
and_false true = refl
and_false false = refl

or_false : (a : Bool) → (a || false) ≡ a
or_false true = refl
or_false false = refl

-- Cells, parted one by one

-- a cell is of the part that it is told to be of
of_part : (names : Bool) (x : Cell) → is_name x ≡ names → is_of_part names x ≡ true
of_part true x is = is
of_part false x is = ap not is

of_other : (names : Bool) (x : Cell) → is_name x ≡ not names → is_of_part names x ≡ false
of_other true x is = is
of_other false x is = ap not is

-- a test that tells of one cell alone asks of the part of this one
part_of_one : (names told : Bool) (c x : Cell) → is_of_part names x ≡ told → (is_of_part names c && is_cell c x) ≡ (told && is_cell c x)
part_of_one names told c x is = by (is_cell c x) refl
  where
    by : (one : Bool) → is_cell c x ≡ one → (is_of_part names c && is_cell c x) ≡ (told && is_cell c x)
    by true one = ap (λ (d : Cell). is_of_part names d && is_cell c x) (is_cell-is c x one) ∙ ap (λ (b : Bool). b && is_cell c x) is
    by false one =
        ap (λ (b : Bool). is_of_part names c && b) one ∙ and_false (is_of_part names c) ∙ sym (ap (λ (b : Bool). told && b) one ∙ and_false told)

-- where it is of the part, a cell comes to the others
pub pushed : (names : Bool) (old new : List Cell) (x : Cell) → is_name x ≡ names → new ≡ old ++ x ∷ [] → (c : Cell) →
    is_among new c ≡ (is_among old c || (is_of_part names c && is_cell c x))
pushed names old new x is put c =
    ap (λ (cells : List Cell). is_among cells c) put ∙ list_any-append (is_cell c) old (x ∷ [])
    ∙ ap (λ (b : Bool). is_among old c || b) (or_false (is_cell c x) ∙ sym (part_of_one names true c x (of_part names x is)))

-- and else nothing is asked of it
pub passed_over : (names : Bool) (cells : List Cell) (x : Cell) → is_name x ≡ not names → (c : Cell) →
    is_among cells c ≡ (is_among cells c || (is_of_part names c && is_cell c x))
passed_over names cells x other c =
    sym (ap (λ (b : Bool). is_among cells c || b) (part_of_one names false c x (of_other names x other)) ∙ or_false (is_among cells c))

either_of : (part a b : Bool) → ((part && a) || (part && b)) ≡ (part && (a || b))
either_of true a b = refl
either_of false a b = refl

-- one more of a list
pub parted_more : (names : Bool) (cells : List Cell) (i : ℕ) (x : Cell) (old new : List Cell) → i < length cells → x ≡ get_or cells i x →
    ((c : Cell) → is_among new c ≡ (is_among old c || (is_of_part names c && is_cell c x))) →
    ((c : Cell) → is_among old c ≡ (is_of_part names c && is_among (take i cells) c)) →
    (c : Cell) → is_among new c ≡ (is_of_part names c && is_among (take (i + 1) cells) c)
parted_more names cells i x old new within at one so_far c =
    one c ∙ ap (λ (b : Bool). b || (is_of_part names c && is_cell c x)) (so_far c)
    ∙ either_of (is_of_part names c) (is_among (take i cells) c) (is_cell c x)
    ∙ ap (λ (y : Cell). is_of_part names c && (is_among (take i cells) c || is_cell c y)) at
    ∙ sym (ap (λ (b : Bool). is_of_part names c && b) (list_any_more (is_cell c) cells i x within))

pub parted_all : (names : Bool) (cells : List Cell) (i : ℕ) (part : List Cell) → length cells ≤ i →
    ((c : Cell) → is_among part c ≡ (is_of_part names c && is_among (take i cells) c)) →
    (c : Cell) → is_among part c ≡ (is_of_part names c && is_among cells c)
parted_all names cells i part whole so_far c =
    so_far c ∙ ap (λ (some : List Cell). is_of_part names c && is_among some c) (take_all i cells whole)

-- What becomes of two indexes

-- the part that is added
pub added_part : {A E : Type 0} (result : Result A E) (names : Bool) (unit : ℕ) (cells part : List Cell) (old new : List (List Cell)) →
    ((c : Cell) → is_among part c ≡ (is_of_part names c && is_among cells c)) → OnOk result (Adds unit part old new) →
    OnOk result (AddsPart names unit cells old new)
added_part (Ok v) names unit cells part old new are adds = λ u c. adds u c ∙ ap (λ (b : Bool). has old u c || ((u == unit) && b)) (are c)
added_part (Err e) names unit cells part old new are adds = tt

-- all in the one
pub adds_one : (unit : ℕ) (cells : List Cell) (old new named : List (List Cell)) → Adds unit cells old new → AddsToBoth unit cells old named new named
adds_one unit cells old new named adds u c =
    ap (λ (b : Bool). b || has named u c) (adds u c) ∙ moved (has old u c) ((u == unit) && is_among cells c) (has named u c)
  where
    moved : (a b n : Bool) → ((a || b) || n) ≡ ((a || n) || b)
    moved true b n = refl
    moved false true true = refl
    moved false true false = refl
    moved false false true = refl
    moved false false false = refl

-- each part in its own
pub adds_both : (unit : ℕ) (cells : List Cell) (old old_named new new_named : List (List Cell)) → AddsPart false unit cells old new →
    AddsPart true unit cells old_named new_named → AddsToBoth unit cells old old_named new new_named
adds_both unit cells old old_named new new_named others names u c =
    ap (λ (b : Bool). b || has new_named u c) (others u c)
    ∙ ap (λ (b : Bool). (has old u c || ((u == unit) && (not (is_name c) && is_among cells c))) || b) (names u c)
    ∙ joined (has old u c) (has old_named u c) (u == unit) (is_name c) (is_among cells c)
  where
    joined : (a n here name there : Bool) →
        ((a || (here && (not name && there))) || (n || (here && (name && there)))) ≡ ((a || n) || (here && there))
    joined true n here name there = refl
    joined false true here name there = or_true (here && (not name && there))
      where
        or_true : (b : Bool) → (b || true) ≡ true
        or_true true = refl
        or_true false = refl
    joined false false false name there = refl
    joined false false true true there = refl
    joined false false true false there = or_false there
