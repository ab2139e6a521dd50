-- Names along axes, filed as cells: what is filed leads back.
use Rattle.std.proofs.Common.{◌≡◌, ◌≢◌, ◌∙◌, ℕ, ◌==◌, Bool, true, false, ◌||◌, ◌&&◌, List, [], ◌∷◌, ◌++◌, Result, Ok, Err, OnOk, OnErr, map, take, get_or, length, ◌<◌, ◌≤◌, ◌+◌, refl, sym, ap}
use Rattle.std.proofs.lemmas.Bool.{eqb-true, false_from_ne_true, false≢true}
use Rattle.std.proofs.lemmas.List.{take_all}
use Rattle.std.proofs.lemmas.List.Folds.{list_any-append, list_any_more}
use Rattle.std.specs.Cmp.{tied_itself}
use Rattle.std.specs.List.{list_any}
use Rattle.std.specs.Ordering.{eq_by_cmp, is_eq}
use Rattle.doc_tree.specs.cell.Cell.{Cell}
use Rattle.doc_tree.specs.cell.Cell.TheVariants.{Kids, Shape, Attrs, Value, Text, Name}
use Rattle.doc_tree.specs.declared.axes.Axis.{Axis}
use Rattle.doc_tree.specs.declared.axes.Axis.TheVariants.{Ancestor, AncestorOrSelf, Attribute, Child, Descendant, DescendantOrSelf, Following, FollowingSibling, Parent, Preceding, PrecedingSibling, SelfNode}
use Rattle.xp_outcome.specs.declared.names_along.NamesAlong.{NamesAlong}
use Rattle.xp_outcome.specs.Recorded.{names_cmp}
use Rattle.xp_outcome.proofs.Sets.{names_cmp_total, names_exact}
use Rattle.cell_index.specs.Cells.{is_among, is_cell}
use Rattle.cell_index.specs.Index.{Adds, Stays, has}
use Rattle.cell_index.proofs.CellLemmas.{is_cell-is, is_cell-self}
use Rattle.read_index.specs.Names.{is_far, is_named}
use Rattle.read_index.specs.inner.Filing.{AddsNames, StaysElsewhere, far_names, filed, near_names}

-- two tests that hold on each other's side are one
same_bool : (a b : Bool) → (a ≡ true → b ≡ true) → (b ≡ true → a ≡ true) → a ≡ b
same_bool true b there back = sym (there refl)
same_bool false true there back = back refl
same_bool false false there back = refl

-- Back and forth

near_filed : (c : Cell) → filed (near_names c).axis (near_names c).node ≡ c
near_filed (Kids n) = refl
near_filed (Shape n) = refl
near_filed (Attrs n) = refl
near_filed (Value n) = refl
near_filed (Text n) = refl
near_filed (Name n) = refl

far_filed : (c : Cell) → filed (far_names c).axis (far_names c).node ≡ c
far_filed (Kids n) = refl
far_filed (Shape n) = refl
far_filed (Attrs n) = refl
far_filed (Value n) = refl
far_filed (Text n) = refl
far_filed (Name n) = refl

near_is : (c : Cell) → is_far (near_names c).axis ≡ false
near_is (Kids n) = refl
near_is (Shape n) = refl
near_is (Attrs n) = refl
near_is (Value n) = refl
near_is (Text n) = refl
near_is (Name n) = refl

far_is : (c : Cell) → is_far (far_names c).axis ≡ true
far_is (Kids n) = refl
far_is (Shape n) = refl
far_is (Attrs n) = refl
far_is (Value n) = refl
far_is (Text n) = refl
far_is (Name n) = refl

near_at : (axis : Axis) (n : ℕ) → is_far axis ≡ false → near_names (filed axis n) ≡ record { axis = axis; node = n }
near_at Child n near = refl
near_at Descendant n near = refl
near_at Attribute n near = refl
near_at DescendantOrSelf n near = refl
near_at FollowingSibling n near = refl
near_at PrecedingSibling n near = refl
near_at Parent n near = absurd (false≢true (sym near))
near_at Ancestor n near = absurd (false≢true (sym near))
near_at SelfNode n near = absurd (false≢true (sym near))
near_at AncestorOrSelf n near = absurd (false≢true (sym near))
near_at Following n near = absurd (false≢true (sym near))
near_at Preceding n near = absurd (false≢true (sym near))

far_at : (axis : Axis) (n : ℕ) → is_far axis ≡ true → far_names (filed axis n) ≡ record { axis = axis; node = n }
far_at Parent n far = refl
far_at Ancestor n far = refl
far_at SelfNode n far = refl
far_at AncestorOrSelf n far = refl
far_at Following n far = refl
far_at Preceding n far = refl
far_at Child n far = absurd (false≢true far)
far_at Descendant n far = absurd (false≢true far)
far_at Attribute n far = absurd (false≢true far)
far_at DescendantOrSelf n far = absurd (false≢true far)
far_at FollowingSibling n far = absurd (false≢true far)
far_at PrecedingSibling n far = absurd (false≢true far)

-- names along axes are those that they are filed as
tied_self : (a : NamesAlong) → eq_by_cmp names_cmp a a ≡ true
tied_self a = ap is_eq (tied_itself names_cmp_total a)

module _ (far : Bool) (back : Cell → NamesAlong) (filed_again : (c : Cell) → filed (back c).axis (back c).node ≡ c)
    (lies : (c : Cell) → is_far (back c).axis ≡ far)
    (leads_back : (axis : Axis) (n : ℕ) → is_far axis ≡ far → back (filed axis n) ≡ record { axis = axis; node = n }) where
  same_test : (a : NamesAlong) → is_far a.axis ≡ far → (c : Cell) → eq_by_cmp names_cmp a (back c) ≡ is_cell (filed a.axis a.node) c
  same_test a is c = same_bool (eq_by_cmp names_cmp a (back c)) (is_cell (filed a.axis a.node) c)
      (λ tied.
      ap (λ (b : NamesAlong). is_cell (filed b.axis b.node) c) (names_exact a (back c) tied) ∙ ap (λ (d : Cell). is_cell d c) (filed_again c)
      ∙ is_cell-self c)
      (λ one.
      ap (λ (d : Cell). eq_by_cmp names_cmp a (back d)) (sym (is_cell-is (filed a.axis a.node) c one))
      ∙ ap (eq_by_cmp names_cmp a) (leads_back a.axis a.node is) ∙ tied_self a)

  among_back : (a : NamesAlong) → is_far a.axis ≡ far → (cells : List Cell) → is_named (map back cells) a ≡ is_among cells (filed a.axis a.node)
  among_back a is [] = refl
  among_back a is (c ∷ cells) =
      ap (λ (b : Bool). b || is_named (map back cells) a) (same_test a is c)
      ∙ ap (λ (b : Bool). is_cell (filed a.axis a.node) c || b) (among_back a is cells)

  other_test : (a : NamesAlong) → is_far a.axis ≢ far → (c : Cell) → eq_by_cmp names_cmp a (back c) ≡ false
  other_test a other c =
      false_from_ne_true (eq_by_cmp names_cmp a (back c))
      (λ tied. other (ap (λ (b : NamesAlong). is_far b.axis) (names_exact a (back c) tied) ∙ lies c))

  none_back : (a : NamesAlong) → is_far a.axis ≢ far → (cells : List Cell) → is_named (map back cells) a ≡ false
  none_back a other [] = refl
  none_back a other (c ∷ cells) = ap (λ (b : Bool). b || is_named (map back cells) a) (other_test a other c) ∙ none_back a other cells

-- Names among those that are filed in both indexes

or_false : (a b : Bool) → b ≡ false → (a || b) ≡ a
or_false true b is = refl
or_false false b is = is

module _ (near far : List Cell) (a : NamesAlong) where
  both_named : is_named (map near_names near ++ map far_names far) a ≡ (is_named (map near_names near) a || is_named (map far_names far) a)
  both_named = list_any-append (eq_by_cmp names_cmp a) (map near_names near) (map far_names far)

  pub named_near : is_far a.axis ≡ false → is_named (map near_names near ++ map far_names far) a ≡ is_among near (filed a.axis a.node)
  named_near is =
      both_named
      ∙ or_false (is_named (map near_names near) a) (is_named (map far_names far) a)
      (none_back true far_names far_filed far_is far_at a (λ same. false≢true (sym is ∙ same)) far)
      ∙ among_back false near_names near_filed near_is near_at a is near

  pub named_far : is_far a.axis ≡ true → is_named (map near_names near ++ map far_names far) a ≡ is_among far (filed a.axis a.node)
  named_far is =
      both_named
      ∙ ap (λ (b : Bool). b || is_named (map far_names far) a)
      (none_back false near_names near_filed near_is near_at a (λ same. false≢true (sym same ∙ is)) near)
      ∙ among_back true far_names far_filed far_is far_at a is far

-- Names, filed one by one

-- the cells of names along axes of one kind are one where these are
filed_alike : (a x : NamesAlong) → is_far a.axis ≡ is_far x.axis → is_cell (filed a.axis a.node) (filed x.axis x.node) ≡ eq_by_cmp names_cmp a x
filed_alike a x alike = by (is_far x.axis) refl
  where
    by : (far : Bool) → is_far x.axis ≡ far → is_cell (filed a.axis a.node) (filed x.axis x.node) ≡ eq_by_cmp names_cmp a x
    by false is =
        sym (same_test false near_names near_filed near_is near_at a (alike ∙ is) (filed x.axis x.node))
        ∙ ap (eq_by_cmp names_cmp a) (near_at x.axis x.node is)
    by true is =
        sym (same_test true far_names far_filed far_is far_at a (alike ∙ is) (filed x.axis x.node))
        ∙ ap (eq_by_cmp names_cmp a) (far_at x.axis x.node is)

any_push : {X : Type 0} (p : X → Bool) (xs : List X) (x : X) → list_any p (xs ++ x ∷ []) ≡ (list_any p xs || (p x || false))
any_push p xs x = list_any-append p xs (x ∷ [])

-- where they are of the kind, their cell comes to the others
pub pushed : (far : Bool) (old new : List Cell) (x : NamesAlong) → is_far x.axis ≡ far → new ≡ old ++ filed x.axis x.node ∷ [] →
    (a : NamesAlong) → is_far a.axis ≡ far → is_among new (filed a.axis a.node) ≡ (is_among old (filed a.axis a.node) || is_named (x ∷ []) a)
pushed far old new x is put a so =
    ap (λ (cells : List Cell). is_among cells (filed a.axis a.node)) put ∙ any_push (is_cell (filed a.axis a.node)) old (filed x.axis x.node)
    ∙ ap (λ (b : Bool). is_among old (filed a.axis a.node) || (b || false)) (filed_alike a x (so ∙ sym is))

-- and else nothing is asked of it
pub passed_over : (far : Bool) (cells : List Cell) (x : NamesAlong) → is_far x.axis ≢ far →
    (a : NamesAlong) → is_far a.axis ≡ far → is_among cells (filed a.axis a.node) ≡ (is_among cells (filed a.axis a.node) || is_named (x ∷ []) a)
passed_over far cells x other a so =
    sym (or_false (is_among cells (filed a.axis a.node)) (is_named (x ∷ []) a)
    (ap (λ (b : Bool). b || false)
    (false_from_ne_true (eq_by_cmp names_cmp a x) (λ tied. other (ap (λ (b : NamesAlong). is_far b.axis) (sym (names_exact a x tied)) ∙ so)))))

-- one more of a list
pub filed_more : (far : Bool) (names : List NamesAlong) (i : ℕ) (x : NamesAlong) (old new : List Cell) → i < length names → x ≡ get_or names i x →
    ((a : NamesAlong) → is_far a.axis ≡ far → is_among new (filed a.axis a.node) ≡ (is_among old (filed a.axis a.node) || is_named (x ∷ []) a)) →
    ((a : NamesAlong) → is_far a.axis ≡ far → is_among old (filed a.axis a.node) ≡ is_named (take i names) a) →
    (a : NamesAlong) → is_far a.axis ≡ far → is_among new (filed a.axis a.node) ≡ is_named (take (i + 1) names) a
filed_more far names i x old new within at one so_far a is =
    one a is ∙ ap (λ (b : Bool). b || is_named (x ∷ []) a) (so_far a is)
    ∙ ap (λ (b : Bool). is_named (take i names) a || b) (or_false (eq_by_cmp names_cmp a x) false refl)
    ∙ ap (λ (y : NamesAlong). is_named (take i names) a || eq_by_cmp names_cmp a y) at
    ∙ sym (list_any_more (eq_by_cmp names_cmp a) names i x within)

pub filed_all : (far : Bool) (names : List NamesAlong) (i : ℕ) (cells : List Cell) → length names ≤ i →
    ((a : NamesAlong) → is_far a.axis ≡ far → is_among cells (filed a.axis a.node) ≡ is_named (take i names) a) →
    (a : NamesAlong) → is_far a.axis ≡ far → is_among cells (filed a.axis a.node) ≡ is_named names a
filed_all far names i cells whole so_far a is = so_far a is ∙ ap (λ (some : List NamesAlong). is_named some a) (take_all i names whole)

-- What becomes of an index

and_apart : (u unit : ℕ) (b : Bool) → u ≢ unit → ((u == unit) && b) ≡ false
and_apart u unit b differ = ap (λ (t : Bool). t && b) (false_from_ne_true (u == unit) (λ same. differ (eqb-true u unit same)))

pub adds_elsewhere : (unit : ℕ) (cells : List Cell) (old new : List (List Cell)) → Adds unit cells old new → StaysElsewhere unit old new
adds_elsewhere unit cells old new adds u c differ =
    adds u c ∙ or_false (has old u c) ((u == unit) && is_among cells c) (and_apart u unit (is_among cells c) differ)

-- wherever an addition ends
pub added_elsewhere : {A E : Type 0} (result : Result A E) (unit : ℕ) (cells : List Cell) (old new : List (List Cell)) →
    OnOk result (Adds unit cells old new) → OnErr result (Stays old new) → StaysElsewhere unit old new
added_elsewhere (Ok v) unit cells old new adds stays u c differ = adds_elsewhere unit cells old new adds u c differ
added_elsewhere (Err e) unit cells old new adds stays u c differ = stays u c

pub nothing_else : (unit : ℕ) (held : List (List Cell)) → StaysElsewhere unit held held
nothing_else unit held u c differ = refl

-- the names whose cells are added
pub added_names : {A E : Type 0} (result : Result A E) (far : Bool) (unit : ℕ) (names : List NamesAlong) (cells : List Cell)
    (old new : List (List Cell)) →
    ((a : NamesAlong) → is_far a.axis ≡ far → is_among cells (filed a.axis a.node) ≡ is_named names a) → OnOk result (Adds unit cells old new) →
    OnOk result (AddsNames far unit names old new)
added_names (Ok v) far unit names cells old new are adds = λ a is u.
    adds u (filed a.axis a.node) ∙ ap (λ (b : Bool). has old u (filed a.axis a.node) || ((u == unit) && b)) (are a is)
added_names (Err e) far unit names cells old new are adds = tt
