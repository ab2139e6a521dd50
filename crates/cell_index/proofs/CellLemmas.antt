-- Whether cells are one.
use Rattle.std.proofs.Common.{◌≡◌, ◌∙◌, Bool, true, false, cond, ◌||◌, ◌&&◌, List, [], ◌∷◌, refl, sym, ap}
use Rattle.std.proofs.lemmas.Bool.{eq-eqb, eqb-true, false≢true}
use Rattle.doc_tree.specs.cell.Cell.{Cell}
use Rattle.doc_tree.specs.cell.Cell.TheVariants.{Kids, Shape, Attrs, Value, Text, Name}
use Rattle.std.proofs.lemmas.List.Sorted.{list_any-IsPermutation}
use Rattle.std.specs.Bool.{OnTrue}
use Rattle.std.specs.Cmp.Lexicographic.{pointwise}
use Rattle.std.specs.List.{dedup, dedup_from, list_any}
use Rattle.std.specs.List.Sorted.{IsPermutation}
use Rattle.cell_index.specs.Cells.{is_cell}

-- cells that are told to be one are one
pub is_cell-is : (c d : Cell) → is_cell c d ≡ true → c ≡ d
is_cell-is (Kids n) (Kids m) same = ap Kids (eqb-true n m same)
is_cell-is (Shape n) (Shape m) same = ap Shape (eqb-true n m same)
is_cell-is (Attrs n) (Attrs m) same = ap Attrs (eqb-true n m same)
is_cell-is (Value n) (Value m) same = ap Value (eqb-true n m same)
is_cell-is (Text n) (Text m) same = ap Text (eqb-true n m same)
is_cell-is (Name n) (Name m) same = ap Name (eqb-true n m same)
is_cell-is c d same = absurd (false≢true same)

pub is_cell-self : (c : Cell) → is_cell c c ≡ true
is_cell-self (Kids n) = eq-eqb n n refl
is_cell-self (Shape n) = eq-eqb n n refl
is_cell-self (Attrs n) = eq-eqb n n refl
is_cell-self (Value n) = eq-eqb n n refl
is_cell-self (Text n) = eq-eqb n n refl
is_cell-self (Name n) = eq-eqb n n refl

-- Cells in their order, each once

or_again : (a b : Bool) → (a || b) ≡ (a || (a || b))
or_again true b = refl
or_again false b = refl

module _ {X : Type 0} (eq : X → X → Bool) (exact : (x y : X) → eq x y ≡ true → x ≡ y) (p : X → Bool) where
  any_dedup_from : (k : X) (xs : List X) → list_any p (dedup_from eq k xs) ≡ (p k || list_any p xs)
  any_dedup_from k [] = refl
  any_dedup_from k (x ∷ xs) =
      elim (eq x k) as (λ b. eq x k ≡ b → list_any p (cond b (dedup_from eq k xs) (k ∷ dedup_from eq x xs)) ≡ (p k || (p x || list_any p xs))) [
        | true ↦ λ e. any_dedup_from k xs ∙ or_again (p k) _ ∙ ap (λ y. p k || (p y || list_any p xs)) (sym (exact x k e))
        | false ↦ λ _. ap (λ b. p k || b) (any_dedup_from x xs)
      ] refl

  any_dedup : (xs : List X) → list_any p (dedup eq xs) ≡ list_any p xs
  any_dedup [] = refl
  any_dedup (x ∷ xs) = any_dedup_from x xs

  -- a list that was sorted and freed of equal neighbours
  pub any_settled : (xs ys zs : List X) → IsPermutation xs ys → zs ≡ dedup eq ys → list_any p zs ≡ list_any p xs
  any_settled xs ys zs moved is = ap (list_any p) is ∙ any_dedup ys ∙ sym (list_any-IsPermutation p xs ys moved)

-- Lists whose cells are the same, one by one

first_so : (a b : Bool) → (a && b) ≡ true → a ≡ true
first_so true b is = refl
first_so false b is = is

second_so : (a b : Bool) → (a && b) ≡ true → b ≡ true
second_so true b is = is
second_so false b is = absurd (false≢true is)

same_list : {X : Type 0} (eq : X → X → Bool) → ((x y : X) → eq x y ≡ true → x ≡ y) → (xs ys : List X) → pointwise eq xs ys ≡ true → xs ≡ ys
same_list eq exact [] [] is = refl
same_list eq exact [] (y ∷ ys) is = absurd (false≢true is)
same_list eq exact (x ∷ xs) [] is = absurd (false≢true is)
same_list eq exact (x ∷ xs) (y ∷ ys) is =
    ap (λ z. z ∷ xs) (exact x y (first_so (eq x y) (pointwise eq xs ys) is)) ∙ ap (λ zs. y ∷ zs) (same_list eq exact xs ys (second_so (eq x y) (pointwise eq xs ys) is))

pub same_on_true : {X : Type 0} (eq : X → X → Bool) → ((x y : X) → eq x y ≡ true → x ≡ y) → (r : Bool) (xs ys : List X) → r ≡ pointwise eq xs ys → OnTrue r (xs ≡ ys)
same_on_true eq exact true xs ys is = same_list eq exact xs ys (sym is)
same_on_true eq exact false xs ys is = tt
