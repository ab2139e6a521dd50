-- Names that are recorded already.
use Rattle.std.proofs.Common.{◌≡◌, ℕ, zero, suc, ◌+◌, max, zero-add, suc-add, ◌<◌, ◌≤◌, Bool, true, false, cond, not, ◌&&◌, ◌||◌, List, [], ◌∷◌, ◌++◌, length, map, refl, sym, ◌∙◌, ap, subst, append-nil, arith, Option, None, Some, Result, Ok, Err, ◌⊎◌, inl, inr}
use Rattle.std.specs.Prelude.{IfSome, OnOk, option_and_then}
use Rattle.std.specs.List.{list_any}
use Rattle.std.proofs.lemmas.Bool.{and_parts, or_left}
use Rattle.std.proofs.lemmas.Option.{IfSome_then}
use Rattle.std.specs.Cmp.{tied_itself}
use Rattle.std.specs.Ordering.{eq_by_cmp, is_eq}
use Rattle.std.specs.FinSet.{contains, contains-insert, insert, same_set}
use Rattle.std.specs.declared.alloc.AllocError.{AllocError}
use Rattle.doc_tree.specs.cell.Cell.{Cell}
use Rattle.doc_tree.specs.cell.Cell.TheVariants.{Name}
use Rattle.doc_tree.specs.kind.Kind.{Kind}
use Rattle.doc_tree.specs.kind.Kind.TheVariants as kinds
use Rattle.doc_tree.specs.Kinds.{is_element}
use Rattle.doc_tree.specs.declared.axes.Axis.{Axis}
use Rattle.doc_tree.specs.declared.axes.Axis.TheVariants.{Ancestor, AncestorOrSelf, Attribute, Child, Descendant, DescendantOrSelf, Following, FollowingSibling, Parent, Preceding, PrecedingSibling, SelfNode}
use Rattle.doc_tree.specs.Table.{Table, kind_of, parent_of}
use Rattle.doc_axes.specs.NodeTests.{is_principal}
use Rattle.xp_typed_tree.specs.TypedTree.{TypedPatternStepTree}
use Rattle.xp_outcome.specs.Evaluation.{Read, Evaluation, all_reading, behind, cell, done}
use Rattle.xp_outcome.specs.Recorded.{Recorded, cell_cmp, has_read, note, note_all}
use Rattle.xp_outcome.specs.Running.{Ran}
use Rattle.xp_outcome.proofs.Runs.{note_all-append, ran_all_reading, ran_done}
use Rattle.xp_outcome.proofs.Sets.{cell_cmp_total, cell_cmp_antisymmetric}
use Rattle.xp_outcome.proofs.SetTests.{tied}
use Rattle.xp_values.specs.declared.values.EvalError.{EvalError}
use Rattle.xp_values.specs.declared.values.EvalFault.{EvalFault}
use Rattle.xp_meaning.specs.Reads.{is_by_name}
use Rattle.xp_meaning.specs.Results.{shown, shown_alloc}
use Rattle.xslt_match.specs.inner.Named.{all_named, is_named}
use Rattle.xslt_match.specs.Names.{HoldsNames, ancestor_at, ancestor_over, place_names, places_from, some_anywhere, step_names}
use Rattle.xslt_match.specs.Refusing.{names_up, own_name}
use Rattle.xslt_ways.specs.Ways.{is_anywhere}
use Rattle.xslt_match.proofs.JoinedReads.{cell_is, cells_noted}

-- What is held of reads

-- a cell that was read stays so
all_still : (c : Cell) (xs : List Read) (held : Recorded) → has_read held (cell c) ≡ true → has_read (note_all held xs) (cell c) ≡ true
all_still c xs held h = cells_noted c xs held ∙ or_left (contains held.cells c) (list_any (cell_is c) xs) h

-- one that is read is
read_now : (c : Cell) (held : Recorded) → has_read (note held (cell c)) (cell c) ≡ true
read_now c held = contains-insert cell_cmp_total held.cells c c ∙ or_left (eq_by_cmp cell_cmp c c) (contains held.cells c) (ap is_eq (tied_itself cell_cmp_total c))

-- and reading it again changes nothing
read_again : (c : Cell) (held : Recorded) → has_read held (cell c) ≡ true → note held (cell c) ≡ held
read_again c held h =
    let same : insert held.cells c ≡ held.cells =
    same_set cell_cmp_total cell_cmp_antisymmetric (insert held.cells c) held.cells (λ d. contains-insert cell_cmp_total held.cells c d ∙ by d (eq_by_cmp cell_cmp d c) refl) in
    ap (λ cells. record { cells = cells; names = held.names; lets = held.lets }) same
  where
    by : (d : Cell) (b : Bool) → eq_by_cmp cell_cmp d c ≡ b → (b || contains held.cells d) ≡ contains held.cells d
    by d true e = sym (ap (contains held.cells) (tied cell_cmp_total cell_cmp_antisymmetric d c e) ∙ h)
    by d false e = refl

-- what was recorded by a run of reads
pub recorded : {A : Type 0} {v : A} (xs : List Read) {held now : Recorded} {before after : ℕ} → Ran (all_reading xs (done {F = EvalFault} v)) (Ok v) held now before after → now ≡ note_all held xs
unfolding all_reading behind done
recorded xs {held} ran = ran.computes.reads ∙ ap (note_all held) (append-nil xs)

-- Steps that look at the names of elements

-- on an axis on which names test elements
pub elements_alone : (axis : Axis) → is_principal axis (Some kinds.Element) ≡ true → (kind : Option Kind) → is_principal axis kind ≡ is_element kind
elements_alone Attribute h kind = absurd (cc)
elements_alone Ancestor h kind = refl
elements_alone AncestorOrSelf h kind = refl
elements_alone Child h kind = refl
elements_alone Descendant h kind = refl
elements_alone DescendantOrSelf h kind = refl
elements_alone Following h kind = refl
elements_alone FollowingSibling h kind = refl
elements_alone Parent h kind = refl
elements_alone Preceding h kind = refl
elements_alone PrecedingSibling h kind = refl
elements_alone SelfNode h kind = refl

none_anywhere : (ss : List TypedPatternStepTree) → all_named ss ≡ true → some_anywhere ss ≡ false
none_anywhere [] all = refl
none_anywhere (s ∷ ss) all =
    let parts = and_parts (is_named s) (all_named ss) all in
    let more = and_parts (is_by_name s.test) (not (is_anywhere s.join) && is_principal s.axis (Some kinds.Element)) parts.0 in
    let here = and_parts (not (is_anywhere s.join)) (is_principal s.axis (Some kinds.Element)) more.1 in
    by (is_anywhere s.join) here.0 (none_anywhere ss parts.1)
  where
    by : (b : Bool) → not b ≡ true → some_anywhere ss ≡ false → (b || some_anywhere ss) ≡ false
    by true h later = absurd (cc)
    by false h later = later

module _ (T : Table) (n : ℕ) where
  -- it is what such a step looks at
  place_is : (s : TypedPatternStepTree) → is_named s ≡ true → (higher : Bool) → higher ≡ false → (o : Option ℕ) → place_names T s.axis s.test (places_from T higher o) ≡ own_name T o
  place_is s named higher low o =
      let more = and_parts (is_by_name s.test) (not (is_anywhere s.join) && is_principal s.axis (Some kinds.Element)) named in
      let here = and_parts (not (is_anywhere s.join)) (is_principal s.axis (Some kinds.Element)) more.1 in
      ap (λ h. place_names T s.axis s.test (places_from T h o)) low ∙ at o here.1 ∙ by_name o more.0
    where
      own : Option ℕ → List Read
      own None = []
      own (Some m) = map cell (map Name (cond (is_element (kind_of T m)) (m ∷ []) []))

      looked_at : (b : Bool) → List Read → List Read
      looked_at b xs = cond b xs []

      at : (o : Option ℕ) → is_principal s.axis (Some kinds.Element) ≡ true → place_names T s.axis s.test (places_from T false o) ≡ looked_at (is_by_name s.test) (own o)
      at None h = refl
      at (Some m) h = ap (λ b. looked_at (is_by_name s.test) (map cell (map Name (cond b (m ∷ []) [])))) (elements_alone s.axis h (kind_of T m))

      alone : (m : ℕ) (b : Bool) → map cell (map Name (cond b (m ∷ []) [])) ≡ cond b (cell (Name m) ∷ []) []
      alone m true = refl
      alone m false = refl

      by_name : (o : Option ℕ) → is_by_name s.test ≡ true → looked_at (is_by_name s.test) (own o) ≡ own_name T o
      by_name None h = ap (λ b. looked_at b []) h
      by_name (Some m) h = ap (λ b. looked_at b (own (Some m))) h ∙ alone m (is_element (kind_of T m))

  -- the names of a path's later steps, and the one of its first
  steps_are : (s : TypedPatternStepTree) (ss : List TypedPatternStepTree) → all_named (s ∷ ss) ≡ true →
      step_names T n (s ∷ ss) ≡ step_names T n ss ++ own_name T (ancestor_at T (length ss) n)
  steps_are s ss all =
      let parts = and_parts (is_named s) (all_named ss) all in
      ap (λ xs. step_names T n ss ++ xs) (place_is s parts.0 (some_anywhere ss) (none_anywhere ss parts.1) (ancestor_over T ss n))

  -- where they are all held, they are recorded already
  own_covered : (held : Recorded) (o : Option ℕ) → IfSome o (λ m. is_element (kind_of T m) ≡ true → has_read held (cell (Name m)) ≡ true) → note_all held (own_name T o) ≡ held
  own_covered held None h = refl
  own_covered held (Some m) h = by (is_element (kind_of T m)) refl
    where
      by : (b : Bool) → is_element (kind_of T m) ≡ b → note_all held (cond b (cell (Name m) ∷ []) []) ≡ held
      by true e = read_again (Name m) held (h e)
      by false e = refl

  pub up_covered : (levels : ℕ) (held : Recorded) → HoldsNames T n levels held → note_all held (names_up T n levels) ≡ held
  up_covered zero held h = refl
  up_covered (suc k) held h =
      note_all-append held (names_up T n k) (own_name T (ancestor_at T k n))
      ∙ ap (λ r. note_all r (own_name T (ancestor_at T k n))) (up_covered k held (λ j below. h j (omega (arith, below))))
      ∙ own_covered held (ancestor_at T k n) (h k (omega arith))

  -- a path's steps look at the names of as many nodes upwards
  pub steps_up : (ss : List TypedPatternStepTree) → all_named ss ≡ true → step_names T n ss ≡ names_up T n (length ss)
  steps_up [] all = refl
  steps_up (s ∷ ss) all = steps_are s ss all ∙ ap (λ xs. xs ++ own_name T (ancestor_at T (length ss) n)) (steps_up ss (and_parts (is_named s) (all_named ss) all).1)

  pub covered : (ss : List TypedPatternStepTree) (held : Recorded) → all_named ss ≡ true → HoldsNames T n (length ss) held → note_all held (step_names T n ss) ≡ held
  covered ss held all h = ap (note_all held) (steps_up ss all) ∙ up_covered (length ss) held h

  -- once they are recorded, they are held
  own_held : (held : Recorded) (o : Option ℕ) → IfSome o (λ m. is_element (kind_of T m) ≡ true → has_read (note_all held (own_name T o)) (cell (Name m)) ≡ true)
  own_held held None = tt
  own_held held (Some m) = λ e. ap (λ b. has_read (note_all held (cond b (cell (Name m) ∷ []) [])) (cell (Name m))) e ∙ read_now (Name m) held

  last_or_below : (j len : ℕ) → j < suc len → (j < len) ⊎ (j ≡ len)
  last_or_below zero zero low = inr refl
  last_or_below zero (suc len) low = inl (omega arith)
  last_or_below (suc j) zero low = absurd (omega (arith, low))
  last_or_below (suc j) (suc len) low = elim (last_or_below j len (omega (arith, low))) [ inl h ↦ inl (omega (arith, h)) | inr h ↦ inr (ap suc h) ]

  pub up_held : (levels : ℕ) (held : Recorded) → HoldsNames T n levels (note_all held (names_up T n levels))
  up_held zero held k below = absurd (omega (arith, below))
  up_held (suc len) held k below =
      let own = own_name T (ancestor_at T len n) in
      let first = note_all held (names_up T n len) in
      let later : (j : ℕ) → j < len → IfSome (ancestor_at T j n) (λ m. is_element (kind_of T m) ≡ true → has_read (note_all first own) (cell (Name m)) ≡ true) =
      λ j low. IfSome_then (ancestor_at T j n) (up_held len held j low) (λ m g e. all_still (Name m) own first (g e)) in
      subst (λ r. IfSome (ancestor_at T k n) (λ m. is_element (kind_of T m) ≡ true → has_read r (cell (Name m)) ≡ true)) (sym (note_all-append held (names_up T n len) own))
      (elim (last_or_below k len below) [
        | inl low ↦ later k low
        | inr same ↦ subst (λ j. IfSome (ancestor_at T j n) (λ m. is_element (kind_of T m) ≡ true → has_read (note_all first own) (cell (Name m)) ≡ true)) (sym same)
            (own_held first (ancestor_at T len n))
      ])

  pub held_now : (ss : List TypedPatternStepTree) (held : Recorded) → all_named ss ≡ true → HoldsNames T n (length ss) (note_all held (step_names T n ss))
  held_now ss held all = subst (λ xs. HoldsNames T n (length ss) (note_all held xs)) (sym (steps_up ss all)) (up_held (length ss) held)

  -- to record them and then those of fewer nodes, or of more, is to record those of the more
  up_again : (fewer levels : ℕ) (held : Recorded) → fewer ≤ levels → note_all (note_all held (names_up T n fewer)) (names_up T n levels) ≡ note_all held (names_up T n levels)
  up_again zero zero held less = refl
  up_again (suc a) zero held less = absurd (omega (arith, less))
  up_again a (suc b) held less = elim (last_or_below a (suc b) (omega (arith, less))) [
    | inl low ↦ note_all-append (note_all held (names_up T n a)) (names_up T n b) (own_name T (ancestor_at T b n))
        ∙ ap (λ r. note_all r (own_name T (ancestor_at T b n))) (up_again a b held (omega (arith, low)))
        ∙ sym (note_all-append held (names_up T n b) (own_name T (ancestor_at T b n)))
    | inr same ↦ subst (λ k. note_all (note_all held (names_up T n k)) (names_up T n (suc b)) ≡ note_all held (names_up T n (suc b))) (sym same)
        (up_covered (suc b) (note_all held (names_up T n (suc b))) (up_held (suc b) held))
  ]

  pub up_both : (a b levels : ℕ) (held : Recorded) → levels ≡ max a b → note_all (note_all held (names_up T n a)) (names_up T n b) ≡ note_all held (names_up T n levels)
  up_both a b levels held greater = elim (which a b) [
    | inl less ↦ let is : b ≡ levels = omega (arith, greater, less) in up_again a b held less ∙ ap (λ (k : ℕ). note_all held (names_up T n k)) is
    | inr less ↦ up_covered b (note_all held (names_up T n a)) (λ k below. up_held a held k (omega (arith, below, less)))
        ∙ same less
  ]
    where
      same : b ≤ a → note_all held (names_up T n a) ≡ note_all held (names_up T n levels)
      same less = let is : a ≡ levels = omega (arith, greater, less) in ap (λ (k : ℕ). note_all held (names_up T n k)) is

      which : (x y : ℕ) → (x ≤ y) ⊎ (y ≤ x)
      which zero y = inl (omega arith)
      which (suc x) zero = inr (omega arith)
      which (suc x) (suc y) = elim (which x y) [ inl h ↦ inl (omega (arith, h)) | inr h ↦ inr (omega (arith, h)) ]

  -- where they are held of some nodes, that of the next is all that is recorded for one node more
  pub up_more : (k levels : ℕ) (held : Recorded) → levels ≡ suc k → HoldsNames T n k held → note_all held (own_name T (ancestor_at T k n)) ≡ note_all held (names_up T n levels)
  up_more k levels held next h =
      ap (λ r. note_all r (own_name T (ancestor_at T k n))) (sym (up_covered k held h))
      ∙ sym (note_all-append held (names_up T n k) (own_name T (ancestor_at T k n)))
      ∙ ap (λ (j : ℕ). note_all held (names_up T n j)) (sym next)

  -- no node stands above where none does
  pub none_above : (k more : ℕ) → ancestor_at T k n ≡ None → ancestor_at T (more + k) n ≡ None
  none_above k zero end = ap (λ j. ancestor_at T j n) (zero-add k) ∙ end
  none_above k (suc more) end = ap (λ j. ancestor_at T j n) (suc-add more k) ∙ ap (option_and_then (parent_of T)) (none_above k more end)

  -- what is held stays so
  pub holds_more : (levels : ℕ) (xs : List Read) (held : Recorded) → HoldsNames T n levels held → HoldsNames T n levels (note_all held xs)
  holds_more levels xs held h k below = IfSome_then (ancestor_at T k n) (h k below) (λ m g e. all_still (Name m) xs held (g e))

  pub holds_ran : {A : Type 0} {m : Evaluation EvalFault A} (levels : ℕ) (r : Result A EvalError) {held now : Recorded} {before after : ℕ} → Ran m (shown r) held now before after →
      HoldsNames T n levels held → OnOk r (HoldsNames T n levels now)
  holds_ran {m = m} levels (Ok v) {held} ran h = subst (HoldsNames T n levels) (sym ran.computes.reads) (holds_more levels m.reads held h)
  holds_ran levels (Err e) ran h = tt

  pub holds_read : {A : Type 0} {m : Evaluation EvalFault A} (levels : ℕ) (r : Result A AllocError) {held now : Recorded} {before after : ℕ} → Ran m (shown_alloc r) held now before after →
      HoldsNames T n levels held → OnOk r (HoldsNames T n levels now)
  holds_read {m = m} levels (Ok v) {held} ran h = subst (HoldsNames T n levels) (sym ran.computes.reads) (holds_more levels m.reads held h)
  holds_read levels (Err e) ran h = tt

-- fewer levels are held where more are
pub holds_fewer : (T : Table) (n : ℕ) (levels fewer : ℕ) (held : Recorded) → fewer ≤ levels → HoldsNames T n levels held → HoldsNames T n fewer held
holds_fewer T n levels fewer held less h k below = h k (omega (arith, below, less))

-- names that are all held are recorded by doing nothing
pub ran_covered : (xs : List Read) (held : Recorded) (count : ℕ) → note_all held xs ≡ held → Ran (all_reading xs (done {F = EvalFault} {A = Unit {0}} tt)) (Ok tt) held held count count
ran_covered xs held count is = ran_all_reading xs (subst (λ r. Ran (done {F = EvalFault} {A = Unit {0}} tt) (Ok tt) r held count count) (sym is) (ran_done tt held count))
