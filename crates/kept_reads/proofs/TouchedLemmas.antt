-- What a command touched is what is read of the way up that is gone.
use Rattle.std.proofs.Common.{◌≡◌, ◌∙◌, ℕ, ◌==◌, Bool, true, false, ◌||◌, ◌&&◌, List, [], ◌∷◌, Option, None, Some, filter, map, refl, sym, ap, subst, inl, inr, ◌⊎◌}
use Rattle.std.specs.List.{list_any}
use Rattle.std.proofs.lemmas.Bool.{and_from, eq-eqb, eqb-true, false≢true, or_cases, or_left, or_right}
use Rattle.doc_tree.specs.cell.Cell.{Cell}
use Rattle.doc_tree.specs.cell.Cell.TheVariants.{Kids, Shape, Attrs, Value, Text, Name}
use Rattle.doc_tree.specs.Laws.{HasWaysUp}
use Rattle.doc_tree.specs.Lists.{mem}
use Rattle.doc_tree.specs.Table.{Table, kind_of, parent_of}
use Rattle.doc_tree.specs.Walks.{above, ancestors}
use Rattle.doc_axes.specs.Axes.{axis_nodes}
use Rattle.doc_axes.specs.NodeTests.{is_principal}
use Rattle.doc_edit_laws.specs.Touching.{touched_attributes, touched_kids, touched_name}
use Rattle.xp_outcome.specs.Evaluation.{Read, cell, names_along, variable}
use Rattle.edit_commands.specs.declared.touched.Touched.{Touched}
use Rattle.edit_commands.specs.declared.touched.Touched.TheVariants.{Said, Attributes, Below, Named}
use Rattle.edit_commands.specs.Touched.{holds_cell, left_cell, said_cell}
use Rattle.kept_reads.specs.declared.kept_reads.KeptReads.{KeptReads}
use Rattle.kept_reads.specs.Marking.{Marks}
use Rattle.kept_reads.specs.inner.Dropping.{DropsTouched, IsAbove, IsAround, IsAroundAbove, IsLeft, is_touched}
use Rattle.kept_reads.proofs.DroppingLemmas.{marks_all}

both_true : (a b : Bool) → (a && b) ≡ true → (a ≡ true) × (b ≡ true)
both_true true true is = (refl, refl)
both_true true false is = absurd (false≢true is)
both_true false b is = absurd (false≢true is)

-- a cell that was touched, read alone
alone : (touched : Cell → Bool) (T : Table) (c : Cell) → touched c ≡ true → is_touched T touched (cell c) ≡ true
alone touched T c hit = or_left (touched c) false hit

or_right_false : (b : Bool) → (b || false) ≡ true → b ≡ true
or_right_false true is = refl
or_right_false false is = is

-- names along an axis, where no name was touched
module _ (T : Table) (touched : Cell → Bool) (no_name : (m : ℕ) → touched (Name m) ≡ false) where
  none_named : (ns : List ℕ) → list_any touched (map Name ns) ≡ false
  none_named [] = refl
  none_named (n ∷ ns) = ap (λ (b : Bool). b || list_any touched (map Name ns)) (no_name n) ∙ none_named ns

  -- what is covered by cells
  covered_by : (A : Read → Type 0) → ((c : Cell) → touched c ≡ true → A (cell c)) → (r : Read) → is_touched T touched r ≡ true → A r
  covered_by A cells (cell c) hit = cells c (or_right_false (touched c) hit)
  covered_by A cells (names_along axis n) hit =
      absurd (false≢true (sym (none_named (filter (λ (m : ℕ). is_principal axis (kind_of T m)) (axis_nodes T axis n))) ∙ hit))
  covered_by A cells (variable slot) hit = absurd (false≢true hit)

-- The way up

module _ (T : Table) (n p : ℕ) (of_node : ℕ → Read → Type 0) (ways : HasWaysUp T) (is : parent_of T n ≡ Some p) where
  pub above_more : (r : Read) → of_node p r ⊎ IsAbove T p of_node r → IsAbove T n of_node r
  above_more r (inl around) = (p, ap (mem p) (ways.ancestors_at n p is) ∙ or_left (p == p) (mem p (ancestors T p)) (eq-eqb p p refl), around)
  above_more r (inr up) = (up.0, ap (mem up.0) (ways.ancestors_at n p is) ∙ or_right (up.0 == p) (mem up.0 (ancestors T p)) up.1, up.2)

  pub above_less : (r : Read) → IsAbove T n of_node r → of_node p r ⊎ IsAbove T p of_node r
  above_less r up = by (or_cases (up.0 == p) (mem up.0 (ancestors T p)) (ap (mem up.0) (sym (ways.ancestors_at n p is)) ∙ up.1))
    where
      by : ((up.0 == p) ≡ true) ⊎ (mem up.0 (ancestors T p) ≡ true) → of_node p r ⊎ IsAbove T p of_node r
      by (inl same) = inl (subst (λ (k : ℕ). of_node k r) (eqb-true up.0 p same) up.2)
      by (inr there) = inr (up.0, there, up.2)

pub above_none : (T : Table) (n : ℕ) (of_node : ℕ → Read → Type 0) → HasWaysUp T → parent_of T n ≡ None → (r : Read) → IsAbove T n of_node r → ⊥
above_none T n of_node ways is r up = false≢true (ap (mem up.0) (sym (ways.no_ancestors n is)) ∙ up.1)

-- A node that says another text

pub said_touched : (T : Table) (n : ℕ) (is_text : Bool) (r : Read) → (r ≡ cell (Value n)) ⊎ ((is_text ≡ true) × IsAroundAbove T n false r) →
    is_touched T (said_cell T n is_text) r ≡ true
said_touched T n is_text r (inl same) = ap (is_touched T (said_cell T n is_text)) same ∙ alone (said_cell T n is_text) T (Value n) (eq-eqb n n refl)
said_touched T n is_text r (inr up) = by up.1.2
  where
    by : IsAround up.1.0 false r → is_touched T (said_cell T n is_text) r ≡ true
    by (inl same) =
        ap (is_touched T (said_cell T n is_text)) same
        ∙ alone (said_cell T n is_text) T (Text up.1.0) (and_from is_text (mem up.1.0 (ancestors T n)) up.0 up.1.1)
    by (inr shape) = absurd (false≢true shape.0)

said_cells : (T : Table) (n : ℕ) (is_text : Bool) (c : Cell) → said_cell T n is_text c ≡ true →
    (cell c ≡ cell (Value n)) ⊎ ((is_text ≡ true) × IsAroundAbove T n false (cell c))
said_cells T n is_text (Value m) hit = inl (ap (λ (k : ℕ). cell (Value k)) (eqb-true m n hit))
said_cells T n is_text (Text m) hit = let parts = both_true is_text (mem m (ancestors T n)) hit in inr (parts.0, (m, parts.1, inl refl))
said_cells T n is_text (Kids m) hit = absurd (false≢true hit)
said_cells T n is_text (Shape m) hit = absurd (false≢true hit)
said_cells T n is_text (Attrs m) hit = absurd (false≢true hit)
said_cells T n is_text (Name m) hit = absurd (false≢true hit)

pub said_covered : (T : Table) (n : ℕ) (is_text : Bool) (r : Read) → is_touched T (said_cell T n is_text) r ≡ true →
    (r ≡ cell (Value n)) ⊎ ((is_text ≡ true) × IsAroundAbove T n false r)
said_covered T n is_text r hit =
    covered_by T (said_cell T n is_text) (λ m. refl) (λ q. (q ≡ cell (Value n))
    ⊎ ((is_text ≡ true) × IsAroundAbove T n false q)) (said_cells T n is_text) r hit

-- An attribute that comes or goes

pub attributes_touched : (T : Table) (n : ℕ) (r : Read) → r ≡ cell (Attrs n) → is_touched T (touched_attributes n) r ≡ true
attributes_touched T n r same = ap (is_touched T (touched_attributes n)) same ∙ alone (touched_attributes n) T (Attrs n) (eq-eqb n n refl)

attributes_cells : (n : ℕ) (c : Cell) → touched_attributes n c ≡ true → cell c ≡ cell (Attrs n)
attributes_cells n (Attrs m) hit = ap (λ (k : ℕ). cell (Attrs k)) (eqb-true m n hit)
attributes_cells n (Kids m) hit = absurd (false≢true hit)
attributes_cells n (Shape m) hit = absurd (false≢true hit)
attributes_cells n (Value m) hit = absurd (false≢true hit)
attributes_cells n (Text m) hit = absurd (false≢true hit)
attributes_cells n (Name m) hit = absurd (false≢true hit)

pub attributes_covered : (T : Table) (n : ℕ) (r : Read) → is_touched T (touched_attributes n) r ≡ true → r ≡ cell (Attrs n)
attributes_covered T n r hit = covered_by T (touched_attributes n) (λ m. refl) (λ q. q ≡ cell (Attrs n)) (attributes_cells n) r hit

-- Kids that come or go

abbrev pub IsBelow : Table → ℕ → Option ℕ → Read → Type 0
IsBelow T p left r = (((r ≡ cell (Kids p)) ⊎ IsAround p true r) ⊎ IsAroundAbove T p true r) ⊎ IsLeft left r

abbrev pub below_cell : Table → ℕ → Option ℕ → Cell → Bool
below_cell T p left c = touched_kids T p c || left_cell left c

module _ (T : Table) (p : ℕ) (left : Option ℕ) where
  kids_alone : (c : Cell) → touched_kids T p c ≡ true → is_touched T (below_cell T p left) (cell c) ≡ true
  kids_alone c hit = alone (below_cell T p left) T c (or_left (touched_kids T p c) (left_cell left c) hit)

  around_touched : (m : ℕ) (r : Read) → mem m (above T p) ≡ true → IsAround m true r → is_touched T (below_cell T p left) r ≡ true
  around_touched m r there (inl same) = ap (is_touched T (below_cell T p left)) same ∙ kids_alone (Text m) there
  around_touched m r there (inr shape) = ap (is_touched T (below_cell T p left)) shape.1 ∙ kids_alone (Shape m) there

left_touched : (T : Table) (p : ℕ) (left : Option ℕ) (r : Read) → IsLeft left r → is_touched T (below_cell T p left) r ≡ true
left_touched T p None r is = absurd is
left_touched T p (Some text) r is =
    ap (is_touched T (below_cell T p (Some text))) is
    ∙ alone (below_cell T p (Some text)) T (Value text)
    (or_right (touched_kids T p (Value text)) (left_cell (Some text) (Value text)) (eq-eqb text text refl))

pub below_touched : (T : Table) (p : ℕ) (left : Option ℕ) (r : Read) → IsBelow T p left r → is_touched T (below_cell T p left) r ≡ true
below_touched T p left r (inl (inl (inl same))) =
    ap (is_touched T (below_cell T p left)) same ∙ kids_alone T p left (Kids p) (eq-eqb p p refl)
below_touched T p left r (inl (inl (inr around))) =
    around_touched T p left p r (or_left (p == p) (mem p (ancestors T p)) (eq-eqb p p refl)) around
below_touched T p left r (inl (inr up)) = around_touched T p left up.0 r (or_right (up.0 == p) (mem up.0 (ancestors T p)) up.1) up.2
below_touched T p left r (inr is) = left_touched T p left r is

-- what is around a node of the way up
way_covered : (T : Table) (p m : ℕ) (left : Option ℕ) (r : Read) → mem m (above T p) ≡ true → IsAround m true r → IsBelow T p left r
way_covered T p m left r there around = by (or_cases (m == p) (mem m (ancestors T p)) there)
  where
    by : ((m == p) ≡ true) ⊎ (mem m (ancestors T p) ≡ true) → IsBelow T p left r
    by (inl same) = inl (inl (inr (subst (λ (k : ℕ). IsAround k true r) (eqb-true m p same) around)))
    by (inr higher) = inl (inr (m, higher, around))

kids_covered : (T : Table) (p : ℕ) (left : Option ℕ) (c : Cell) → touched_kids T p c ≡ true → IsBelow T p left (cell c)
kids_covered T p left (Kids m) hit = inl (inl (inl (ap (λ (k : ℕ). cell (Kids k)) (eqb-true m p hit))))
kids_covered T p left (Shape m) hit = way_covered T p m left (cell (Shape m)) hit (inr (refl, refl))
kids_covered T p left (Text m) hit = way_covered T p m left (cell (Text m)) hit (inl refl)
kids_covered T p left (Attrs m) hit = absurd (false≢true hit)
kids_covered T p left (Value m) hit = absurd (false≢true hit)
kids_covered T p left (Name m) hit = absurd (false≢true hit)

left_covered : (left : Option ℕ) (c : Cell) → left_cell left c ≡ true → IsLeft left (cell c)
left_covered None c hit = absurd (false≢true hit)
left_covered (Some text) (Value m) hit = ap (λ (k : ℕ). cell (Value k)) (eqb-true m text hit)
left_covered (Some text) (Kids m) hit = absurd (false≢true hit)
left_covered (Some text) (Shape m) hit = absurd (false≢true hit)
left_covered (Some text) (Attrs m) hit = absurd (false≢true hit)
left_covered (Some text) (Text m) hit = absurd (false≢true hit)
left_covered (Some text) (Name m) hit = absurd (false≢true hit)

left_no_name : (left : Option ℕ) (m : ℕ) → left_cell left (Name m) ≡ false
left_no_name None m = refl
left_no_name (Some text) m = refl

pub below_covered : (T : Table) (p : ℕ) (left : Option ℕ) (r : Read) → is_touched T (below_cell T p left) r ≡ true → IsBelow T p left r
below_covered T p left r hit = covered_by T (below_cell T p left) (left_no_name left) (IsBelow T p left) by r hit
  where
    by : (c : Cell) → below_cell T p left c ≡ true → IsBelow T p left (cell c)
    by c there = elim (or_cases (touched_kids T p c) (left_cell left c) there) [
      | inl kids ↦ kids_covered T p left c kids
      | inr is ↦ inr (left_covered left c is)
    ]

-- All that was touched

module _ (T : Table) (width : ℕ) (old new : KeptReads) where
  -- what was touched, told by a word of its own
  told : (touched : Touched) (own : Cell → Bool) → ((c : Cell) → holds_cell T touched c ≡ own c) → (A : Read → Type 0) →
      ((r : Read) → A r → is_touched T own r ≡ true) →
      ((r : Read) → is_touched T own r ≡ true → A r) → DropsTouched T (holds_cell T touched) width A old new →
      Marks T (holds_cell T touched) width old new
  told touched own is A hits covers drops =
      let same : holds_cell T touched ≡ own = λ i c. is c i in
      marks_all T (holds_cell T touched) width A old new (λ r there. ap (λ (f : Cell → Bool). is_touched T f r) same ∙ hits r there)
      (λ r hit. covers r (ap (λ (f : Cell → Bool). is_touched T f r) (sym same) ∙ hit)) drops

  pub said_marked : (touched : Touched) (n : ℕ) (is_text : Bool) → touched ≡ Said n is_text →
      DropsTouched T (holds_cell T touched) width (λ r. (r ≡ cell (Value n)) ⊎ ((is_text ≡ true) × IsAroundAbove T n false r)) old new →
      Marks T (holds_cell T touched) width old new
  said_marked touched n is_text is drops =
      told touched (said_cell T n is_text) (λ c. ap (λ (t : Touched). holds_cell T t c) is) (λ r. (r ≡ cell (Value n))
      ⊎ ((is_text ≡ true) × IsAroundAbove T n false r))
      (said_touched T n is_text) (said_covered T n is_text) drops

  pub attributes_marked : (touched : Touched) (n : ℕ) → touched ≡ Attributes n →
      DropsTouched T (holds_cell T touched) width (λ r. r ≡ cell (Attrs n)) old new →
      Marks T (holds_cell T touched) width old new
  attributes_marked touched n is drops =
      told touched (touched_attributes n) (λ c. ap (λ (t : Touched). holds_cell T t c) is) (λ r. r ≡ cell (Attrs n)) (attributes_touched T n)
      (attributes_covered T n) drops

  pub below_marked : (touched : Touched) (p : ℕ) (left : Option ℕ) → touched ≡ Below p left →
      DropsTouched T (holds_cell T touched) width (IsBelow T p left) old new →
      Marks T (holds_cell T touched) width old new
  below_marked touched p left is drops =
      told touched (below_cell T p left) (λ c. ap (λ (t : Touched). holds_cell T t c) is) (IsBelow T p left) (below_touched T p left)
      (below_covered T p left) drops

  pub named_marked : (touched : Touched) (n : ℕ) → touched ≡ Named n →
      DropsTouched T (holds_cell T touched) width (λ r. is_touched T (touched_name n) r ≡ true) old new → Marks T (holds_cell T touched) width old new
  named_marked touched n is drops =
      told touched (touched_name n) (λ c. ap (λ (t : Touched). holds_cell T t c) is) (λ r. is_touched T (touched_name n) r ≡ true) (λ r hit. hit)
      (λ r hit. hit) drops
