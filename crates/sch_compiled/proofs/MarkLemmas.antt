-- Marks of cells: written at one place, and read off node by node.
use Rattle.std.proofs.Common.{◌≡◌, ◌≢◌, ◌∙◌, ◌⊎◌, inl, inr, ℕ, ◌+◌, ◌*◌, ◌/◌, ◌<◌, ◌≤◌, ◌==◌, ◌^◌, suc, Bool, true, false, ◌||◌, if◌then◌else◌, List, [], ◌∷◌, ◌++◌, Option, None, length, length-drop, drop, filter, ◌-◌, slice_index_or, slice_set, refl, sym, ap, subst, arith}
use Rattle.std.proofs.Math.Nat.{mul-le-mul_right, div-mul-le_self, lt-div-mul-add}
use Rattle.std.proofs.lemmas.Bool.{cases_order, cases_lt, eq-eqb, eqb-true}
use Rattle.std.proofs.lemmas.List.{get_or-drop, get_or-set_same, get_or-set_other, length-set}
use Rattle.std.proofs.Math.ListN.{get_or-eq_default}
use Rattle.memchr.specs.Find.{NoneBefore, Nowhere, Passes, is_byte}
use Rattle.doc_tree.specs.Lists.{mem}
use Rattle.doc_tree.specs.Table.{Table}
use Rattle.doc_tree.specs.Walks.{order}
use Rattle.doc_axes.proofs.SubLists.{mem-append_is}
use Rattle.sch_compiled.specs.declared.findings.Outcome.{Outcome}
use Rattle.sch_compiled.specs.Findings.{AreTold, OutcomeTable, ToldInOrder, is_told}
use Rattle.sch_compiled.specs.inner.Cells.{shown}
use Rattle.sch_compiled.specs.inner.Marks.{AreMarked, AreUnmarked, IsMarked, IsMarkedAt, IsNextMark, mark_of}
use Rattle.sch_compiled.proofs.FindingsLemmas.{shown-at}

-- a cell and its mark are written
pub set-marked : (patterns : ℕ) (cells : List (Option Outcome)) (marks : List ℕ) (place : ℕ) (outcome : Option Outcome) (mark : ℕ) →
    ((i : ℕ) → slice_index_or marks i 0 ≡ mark_of (slice_index_or cells i None)) → mark ≡ mark_of outcome →
    place < length cells → length cells ≤ length marks → length marks ≤ 2 ^ 32 * patterns →
    IsMarked patterns (slice_set cells place outcome) (slice_set marks place mark)
set-marked patterns cells marks place outcome mark so is within room few = record {
  each = λ i. by i (cases_eq i);
  room = omega (arith, length-set cells place outcome, length-set marks place mark, room);
  few = omega (arith, length-set marks place mark, few);
}
  where
    cases_eq : (i : ℕ) → (i ≡ place) ⊎ (i ≢ place)
    cases_eq i = elim (cases_order i place) [
      | inl e ↦ inl e
      | inr other ↦ inr (λ (e : i ≡ place). elim other [
        | inl before ↦ absurd (omega arith)
        | inr after ↦ absurd (omega arith)
      ])
    ]

    by : (i : ℕ) → (i ≡ place) ⊎ (i ≢ place) → slice_index_or (slice_set marks place mark) i 0 ≡ mark_of (slice_index_or (slice_set cells place outcome) i None)
    by i (inl e) = rw e (get_or-set_same marks place mark 0 (omega arith) ∙ (is ∙ sym (ap mark_of (get_or-set_same cells place outcome None within))))
    by i (inr other) = get_or-set_other marks place i mark 0 other ∙ (so i ∙ sym (ap mark_of (get_or-set_other cells place i outcome None other)))

-- a number between the first places of two nodes, one after another, is of the first
row_of : (count p n m : ℕ) → p < count → m * count ≤ n * count + p → n * count + p < suc m * count → n ≡ m
row_of count p n m low from past = elim (cases_order n m) [
  | inl e ↦ e
  | inr other ↦ elim other [
    | inl before ↦ let rows : suc n * count ≤ m * count = mul-le-mul_right count before in absurd (omega arith)
    | inr after ↦ let rows : suc m * count ≤ n * count = mul-le-mul_right count after in absurd (omega arith)
  ]
]

mem-front : (n : ℕ) (xs ys : List ℕ) → mem n xs ≡ true → mem n (xs ++ ys) ≡ true
mem-front n [] ys there = absurd (cc)
mem-front n (x ∷ xs) ys there = by (n == x) (mem-front n xs ys) there
  where
    by : (b : Bool) → (mem n xs ≡ true → mem n (xs ++ ys) ≡ true) → (b || mem n xs) ≡ true → (b || mem n (xs ++ ys)) ≡ true
    by true rest is = refl
    by false rest is = rest is

mem-end : (n m : ℕ) (xs : List ℕ) → n ≡ m → mem n (xs ++ m ∷ []) ≡ true
mem-end n m [] e = let same : (n == m) ≡ true = eq-eqb n m e in ap (λ (b : Bool). b || false) same
mem-end n m (x ∷ xs) e = by (n == x) (mem-end n m xs e)
  where
    by : (b : Bool) → mem n (xs ++ m ∷ []) ≡ true → (b || mem n (xs ++ m ∷ [])) ≡ true
    by true rest = refl
    by false rest = rest

-- more marks that tell nothing are marks of the same cells
pub more-marked : (patterns : ℕ) (cells : List (Option Outcome)) (marks more : List ℕ) → IsMarked patterns cells marks →
    ((place : ℕ) → slice_index_or more place 0 ≡ slice_index_or marks place 0) → length marks ≤ length more → length more ≤ 2 ^ 32 * patterns → IsMarked patterns cells more
more-marked patterns cells marks more marked same longer few = record {
  each = λ place. same place ∙ marked.each place;
  room = omega (arith, marked.room, longer);
  few = few;
}

-- a mark behind a place, in what stands from there on
marked-behind : (marks rest : List ℕ) (from place : ℕ) → rest ≡ drop from marks → from ≤ place → slice_index_or marks place 0 ≡ 1 → Passes (is_byte 1) rest (place - from)
marked-behind marks rest from place is late marked =
    let back : from + (place - from) ≡ place = omega (arith, late) in
    eq-eqb (slice_index_or rest (place - from) 0) 1
    (ap (λ (l : List ℕ). slice_index_or l (place - from) 0) is ∙ get_or-drop from marks (place - from) 0 ∙ ap (λ (i : ℕ). slice_index_or marks i 0) back ∙ marked)

-- where no mark was found behind a place, there is none
pub none-behind : (marks rest : List ℕ) (from : ℕ) → rest ≡ drop from marks → Nowhere (Passes (is_byte 1) rest) 0 (length rest) → AreUnmarked marks from (length marks)
none-behind marks rest from is none place late within marked =
    none (place - from) (omega arith) (omega (arith, ap length is, length-drop from marks, late, within)) (marked-behind marks rest from place is late marked)

-- the first mark that was found behind a place is the next one
pub first-behind : (marks rest : List ℕ) (from offset : ℕ) → rest ≡ drop from marks → from ≤ length marks → NoneBefore (Passes (is_byte 1) rest) 0 (length rest) offset → Passes (is_byte 1) rest offset →
    IsNextMark marks from (from + offset)
first-behind marks rest from offset is short first found = record {
  behind = omega arith;
  within = omega (arith, ap length is, length-drop from marks, first.high, short);
  there = sym (get_or-drop from marks offset 0) ∙ (sym (ap (λ (l : List ℕ). slice_index_or l offset 0) is) ∙ eqb-true (slice_index_or rest offset 0) 1 found);
  between = λ place late early marked. first.before (place - from) (omega arith) (omega (arith, late, early)) (marked-behind marks rest from place is late marked);
}

not_both : (mark : ℕ) → mark ≡ 0 → mark ≡ 1 → ⊥
not_both mark none one = absurd (omega (arith, none, one))

-- the number is one of a list, or the last behind it
mem-last : (n m : ℕ) (xs : List ℕ) → mem n (xs ++ m ∷ []) ≡ true → (mem n xs ≡ true) ⊎ (n ≡ m)
mem-last n m xs there = by (mem n xs) (n == m) refl refl (sym (mem-append_is n xs (m ∷ [])) ∙ there)
  where
    by : (a b : Bool) → mem n xs ≡ a → (n == m) ≡ b → (a || (b || false)) ≡ true → (mem n xs ≡ true) ⊎ (n ≡ m)
    by true b e f is = inl e
    by false true e f is = inr (eqb-true n m f)
    by false false e f is = absurd (cc)

-- the nodes of which a cell before a place is marked are in the list, and no others
pub record AreMarkedTo (count : ℕ) (marks nodes : List ℕ) (from : ℕ) : Type 0 where
  pub all : (p n : ℕ) → p < count → n * count + p < from → IsMarkedAt count marks p n → mem n nodes ≡ true
  pub alone : (n : ℕ) → mem n nodes ≡ true → (p : ℕ) × (p < count) × IsMarkedAt count marks p n

-- with the node of the next mark, those of all before the next node are
pub marked-next : (count : ℕ) (marks nodes : List ℕ) (from place : ℕ) → length marks ≤ 2 ^ 32 * count → IsNextMark marks from place → AreMarkedTo count marks nodes from →
    AreMarkedTo count marks (nodes ++ place / count ∷ []) ((place / count + 1) * count)
marked-next count marks nodes from place few next before = record {
  all = λ p n low under marked. elim (cases_lt (n * count + p) from) [
    | inl early ↦ mem-front n nodes _ (before.all p n low early marked)
    | inr late ↦ elim (cases_lt (n * count + p) place) [
      | inl between ↦ absurd (next.between (n * count + p) late between marked)
      | inr there ↦ mem-end n (place / count) nodes (row_of count p n (place / count) low (omega (arith, div-mul-le_self place count, there)) (omega (arith, under)))
    ]
  ];
  alone = λ n there. elim (mem-last n (place / count) nodes there) [
    | inl early ↦ before.alone n early
    | inr e ↦ (place - place / count * count, omega (arith, row, behind), subst (λ (m : ℕ). IsMarkedAt count marks (place - place / count * count) m) (sym e) (ap (λ (i : ℕ). slice_index_or marks i 0) at ∙ next.there))
  ];
}
  where
    some : 0 < count
    some = omega (arith, next.within, few)

    row : place / count * count ≤ place
    row = div-mul-le_self place count

    behind : place < place / count * count + count
    behind = lt-div-mul-add some

    at : place / count * count + (place - place / count * count) ≡ place
    at = omega (arith, row)

-- with no mark left, those of all are
pub marked-all : (count : ℕ) (marks nodes : List ℕ) (from : ℕ) → AreUnmarked marks from (length marks) → AreMarkedTo count marks nodes from → AreMarked count marks nodes
marked-all count marks nodes from none before = record {
  all = λ p n low marked. elim (cases_lt (n * count + p) from) [
    | inl early ↦ before.all p n low early marked
    | inr late ↦ elim (cases_lt (n * count + p) (length marks)) [
      | inl within ↦ absurd (none (n * count + p) late within marked)
      | inr past ↦ absurd (not_both (slice_index_or marks (n * count + p) 0) (get_or-eq_default marks 0 past) marked)
    ]
  ];
  alone = before.alone;
}

-- the mark of a cell tells whether it is told of
told_of : (b : Bool) (mark : ℕ) → mark ≡ (if b then 1 else 0) → mark ≡ 1 → b ≡ true
told_of true mark own one = refl
told_of false mark own one = absurd (omega (arith, own, one))

-- the nodes of marked cells are those of which something is told
pub all-told : (table : OutcomeTable) (count : ℕ) (cells : List (Option Outcome)) (marks seen nodes : List ℕ) → table ≡ shown count cells → IsMarked count cells marks → seen ≡ marks →
    AreMarked count seen nodes → AreTold table nodes
all-told table count cells marks seen nodes was marked same listed = record {
  all = λ p n low told.
      let below : p < count = omega (arith, low, patterns) in
      listed.all p n below (read p n ∙ (marked.each (n * count + p)
      ∙ ap (λ (b : Bool). if b then 1 else 0) (ap is_told (sym (shown-at table count p n cells was below)) ∙ told)));
  alone = λ n there.
      let one = listed.alone n there in (
        one.0,
        omega (arith, one.1, patterns),
        ap is_told (shown-at table count one.0 n cells was one.1)
            ∙ told_of (is_told (slice_index_or cells (n * count + one.0) None)) (slice_index_or marks (n * count + one.0) 0) (marked.each (n * count + one.0)) (sym (read one.0 n) ∙ one.2),
      );
}
  where
    patterns : table.patterns ≡ count
    patterns = ap (λ (t : OutcomeTable). t.patterns) was

    read : (p n : ℕ) → slice_index_or seen (n * count + p) 0 ≡ slice_index_or marks (n * count + p) 0
    read p n = ap (λ (l : List ℕ). slice_index_or l (n * count + p) 0) same

-- All nodes

filter-all : (ns : List ℕ) → filter (λ n. true) ns ≡ ns
filter-all [] = refl
filter-all (n ∷ ns) = ap (λ (l : List ℕ). n ∷ l) (filter-all ns)

-- among all nodes of a tree are those that are told of
pub all-in_order : (T : Table) (table : OutcomeTable) (nodes : List ℕ) → nodes ≡ order T → ToldInOrder T table nodes
all-in_order T table nodes is = record { among = λ n. true; in_order = is ∙ sym (filter-all (order T)); all = λ p n low told. refl }
