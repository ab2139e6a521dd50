-- Sets of cells as lists give them: their wide cells, and what is added one by one.
use Rattle.std.proofs.Common.{◌≡◌, ℕ, ◌<◌, ◌+◌, Bool, true, false, ◌&&◌, ◌||◌, ◌==◌, not, List, [], ◌∷◌, ◌++◌, length, take, get_or, refl, sym, ap, ◌∙◌, ◌≤◌, subst, ⊎_elim}
use Rattle.std.specs.FinSet.{contains, contains-empty, contains-from_list, contains-insert, empty, from_list, insert}
use Rattle.std.specs.List.{flat_map, list_any}
use Rattle.std.specs.Ordering.{eq_by_cmp}
use Rattle.std.specs.Cmp.{Equal-is, unsigned_tied}
use Rattle.std.proofs.lemmas.Bool.{false≢true, or_cases}
use Rattle.std.proofs.lemmas.List.{take_all}
use Rattle.std.proofs.lemmas.List.Folds.{list_any-append, list_any_more}
use Rattle.doc_tree.specs.cell.Cell.{Cell}
use Rattle.doc_tree.specs.cell.Cell.TheVariants.{Kids, Shape, Attrs, Value, Text, Name}
use Rattle.doc_tree.specs.Lists.{mem}
use Rattle.xp_outcome.specs.Recorded.{CellSet, cell_cmp}
use Rattle.xp_outcome.proofs.Sets.{cell_cmp_antisymmetric, cell_cmp_total}
use Rattle.cell_covers.specs.inner.Dropping.{Leaves, StandsFor, is_wide, shape_in, text_in}

-- whether a node stands in a list is a test of its nodes
pub mem_any : (n : ℕ) (ns : List ℕ) → mem n ns ≡ list_any (λ m. n == m) ns
mem_any n [] = refl
mem_any n (m ∷ ms) = ap (λ b. (n == m) || b) (mem_any n ms)

mem-append : (n : ℕ) (ms ns : List ℕ) → mem n (ms ++ ns) ≡ (mem n ms || mem n ns)
mem-append n ms ns = mem_any n (ms ++ ns) ∙ list_any-append (λ m. n == m) ms ns ∙ sym (ap (λ b. b || list_any (λ m. n == m) ns) (mem_any n ms) ∙ ap (λ b. mem n ms || b) (mem_any n ns))

or_false : (b : Bool) → (b || false) ≡ b
or_false true = refl
or_false false = refl

-- the node in a cell is that of the cell that ties with it
shape_ties : (n : ℕ) (c : Cell) → mem n (shape_in c) ≡ eq_by_cmp cell_cmp (Shape n) c
shape_ties n (Kids m) = refl
shape_ties n (Shape m) = or_false (n == m) ∙ sym (unsigned_tied n m)
shape_ties n (Attrs m) = refl
shape_ties n (Value m) = refl
shape_ties n (Text m) = refl
shape_ties n (Name m) = refl

text_ties : (n : ℕ) (c : Cell) → mem n (text_in c) ≡ eq_by_cmp cell_cmp (Text n) c
text_ties n (Kids m) = refl
text_ties n (Shape m) = refl
text_ties n (Attrs m) = refl
text_ties n (Value m) = refl
text_ties n (Text m) = or_false (n == m) ∙ sym (unsigned_tied n m)
text_ties n (Name m) = refl

module _ (n : ℕ) (f : Cell → List ℕ) (q : Cell) (ties : (c : Cell) → mem n (f c) ≡ eq_by_cmp cell_cmp q c) where
  listed : (cells : List Cell) → mem n (flat_map f cells) ≡ list_any (eq_by_cmp cell_cmp q) cells
  listed [] = refl
  listed (c ∷ cs) =
      mem-append n (f c) (flat_map f cs)
      ∙ ap (λ b. b || mem n (flat_map f cs)) (ties c)
      ∙ ap (λ b. eq_by_cmp cell_cmp q c || b) (listed cs)

  pub listed_in : (cells : List Cell) → mem n (flat_map f cells) ≡ contains (from_list {R = cell_cmp} cells) q
  listed_in cells = listed cells ∙ sym (contains-from_list cell_cmp_total cells q)

-- sets with the nodes of the wide cells stand for them
pub stands_for : (cells : List Cell) (shapes texts : List ℕ) → ((n : ℕ) → mem n shapes ≡ mem n (flat_map shape_in cells)) →
    ((n : ℕ) → mem n texts ≡ mem n (flat_map text_in cells)) →
    StandsFor (from_list cells) shapes texts
stands_for cells shapes texts shape text = record {
  shapes_are = λ n. shape n ∙ listed_in n shape_in (Shape n) (shape_ties n) cells;
  texts_are = λ n. text n ∙ listed_in n text_in (Text n) (text_ties n) cells;
}

-- one cell more of a list
both_added : (e l n : Bool) → (e ≡ true → n ≡ true) → (e || (l && n)) ≡ ((l || e) && n)
both_added true true n h = sym (h refl)
both_added true false n h = sym (h refl)
both_added false true n h = refl
both_added false false n h = refl

both_passed : (e l n : Bool) → (e ≡ true → n ≡ false) → (l && n) ≡ ((l || e) && n)
both_passed true true n h = refl
both_passed true false n h = sym (h refl)
both_passed false true n h = refl
both_passed false false n h = refl

module _ (covered : Cell → Bool) (cells : List Cell) (held : CellSet) (i : ℕ) (x : Cell) (within : i < length cells) (is : x ≡ get_or cells i x)
    (so_far : Leaves covered (from_list (take i cells)) held) where
  more : (c : Cell) → contains (from_list {R = cell_cmp} (take (i + 1) cells)) c ≡ (contains (from_list {R = cell_cmp} (take i cells)) c || eq_by_cmp cell_cmp c x)
  more c =
      contains-from_list cell_cmp_total (take (i + 1) cells) c
      ∙ list_any_more (eq_by_cmp cell_cmp c) cells i x within
      ∙ ap (λ b. b || eq_by_cmp cell_cmp c (get_or cells i x)) (sym (contains-from_list cell_cmp_total (take i cells) c))
      ∙ ap (λ y. contains (from_list {R = cell_cmp} (take i cells)) c || eq_by_cmp cell_cmp c y) (sym is)

  same : (b : Bool) → covered x ≡ b → (c : Cell) → eq_by_cmp cell_cmp c x ≡ true → not (covered c) ≡ not b
  same b e c tied = ap not (ap covered (cell_cmp_antisymmetric c x ((Equal-is (cell_cmp c x)).0 tied)) ∙ e)

  pub one_added : covered x ≡ false → Leaves covered (from_list (take (i + 1) cells)) (insert held x)
  one_added e c =
      let l = contains (from_list {R = cell_cmp} (take i cells)) c in
      let tie = eq_by_cmp cell_cmp c x in
      contains-insert cell_cmp_total held x c
      ∙ ap (λ b. tie || b) (so_far c)
      ∙ both_added tie l (not (covered c)) (same false e c)
      ∙ ap (λ b. b && not (covered c)) (sym (more c))

  pub one_passed : covered x ≡ true → Leaves covered (from_list (take (i + 1) cells)) held
  one_passed e c =
      let l = contains (from_list {R = cell_cmp} (take i cells)) c in
      let tie = eq_by_cmp cell_cmp c x in
      so_far c ∙ both_passed tie l (not (covered c)) (same true e c) ∙ ap (λ b. b && not (covered c)) (sym (more c))

pub none_added : (covered : Cell → Bool) (cells : List Cell) (held : CellSet) → held ≡ empty → Leaves covered (from_list (take 0 cells)) held
none_added covered cells held e c = ap (λ (s : CellSet). contains s c) e ∙ contains-empty cell_cmp c ∙ sym (ap (λ b. b && not (covered c)) (contains-empty cell_cmp c))

pub all_added : (covered : Cell → Bool) (cells : List Cell) (held : CellSet) (i : ℕ) → length cells ≤ i → Leaves covered (from_list (take i cells)) held → Leaves covered (from_list cells) held
all_added covered cells held i past so_far = subst (λ (cs : List Cell). Leaves covered (from_list cs) held) (take_all i cells past) so_far

-- no cell of a set is wide where none of a list is that it is of
neither : (b c : Bool) → (b || c) ≡ false → (b ≡ false) × (c ≡ false)
neither true c is = absurd (false≢true (sym is))
neither false c is = (refl, is)

narrow : (cells : List Cell) → list_any is_wide cells ≡ false → (d : Cell) → list_any (eq_by_cmp cell_cmp d) cells ≡ true → is_wide d ≡ false
narrow [] none d there = absurd (false≢true there)
narrow (c ∷ cs) none d there =
    let parts = neither (is_wide c) (list_any is_wide cs) none in
    ⊎_elim (λ (tie : eq_by_cmp cell_cmp d c ≡ true). ap is_wide (cell_cmp_antisymmetric d c ((Equal-is (cell_cmp d c)).0 tie)) ∙ parts.0)
    (λ (more : list_any (eq_by_cmp cell_cmp d) cs ≡ true). narrow cs parts.1 d more)
    (or_cases (eq_by_cmp cell_cmp d c) (list_any (eq_by_cmp cell_cmp d) cs) there)

pub none_wide : (cells : List Cell) → list_any is_wide cells ≡ false → (d : Cell) → contains (from_list {R = cell_cmp} cells) d ≡ true → is_wide d ≡ false
none_wide cells none d there = narrow cells none d (sym (contains-from_list cell_cmp_total cells d) ∙ there)
