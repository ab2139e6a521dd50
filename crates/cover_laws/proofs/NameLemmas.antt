-- Names along axes: only where a node is renamed is a name touched, and that leaves all axes as they are.
use Rattle.std.proofs.Common.{◌≡◌, ℕ, Bool, false, not, ◌&&◌, ◌||◌, ◌==◌, cond, List, [], ◌∷◌, Option, None, Some, refl, sym, ap, ap₂, ◌∙◌}
use Rattle.std.specs.Prelude.{filter, map}
use Rattle.std.specs.FinSet.{items}
use Rattle.std.specs.List.{list_any}
use Rattle.doc_table.specs.inner.Sound.{Formed}
use Rattle.doc_table.proofs.Forests.{formed-of}
use Rattle.doc_tree.specs.cell.Cell.{Cell}
use Rattle.doc_tree.specs.cell.Cell.TheVariants.{Name}
use Rattle.doc_tree.specs.declared.axes.Axis.{Axis}
use Rattle.doc_tree.specs.declared.axes.Axis.TheVariants.{Ancestor, AncestorOrSelf, Attribute, Child, Descendant, DescendantOrSelf, Following, FollowingSibling, Parent, Preceding, PrecedingSibling, SelfNode}
use Rattle.doc_tree.specs.Laws.{WellFormed}
use Rattle.doc_tree.specs.Lists.{mem}
use Rattle.doc_tree.specs.Order.{after}
use Rattle.doc_tree.specs.Table.{Name as NodeName, Table, attrs_of, kids_above, kids_of, kind_of, parent_of}
use Rattle.doc_tree.specs.Walks.{ancestors, order}
use Rattle.doc_axes.specs.Axes.{axis_nodes, axis_order, backwards, is_after, is_ancestor, is_attribute, is_attribute_kind, is_descendant, is_one, is_reverse, kids_beside, on_axis}
use Rattle.doc_axes.specs.NodeTests.{is_principal}
use Rattle.doc_edits.specs.Changes.{Meeting, deleted, gained, inserted, meeting, removed, renamed, renaming, said}
use Rattle.doc_edits.proofs.RecontentLemmas.{same-ancestors, same-order}
use Rattle.doc_edits.proofs.RenamingLemmas.{renaming-kind}
use Rattle.doc_edit_laws.specs.Along.{Edit, deletes, gains, inserts, loses, renames, says}
use Rattle.doc_edit_laws.specs.Touching.{touched_attributes, touched_deletion, touched_kids, touched_meeting, touched_name, touched_saying}
use Rattle.doc_edit_laws.proofs.RecontentAgreement as kept
use Rattle.xp_outcome.specs.Cells.{cells_of}
use Rattle.xp_outcome.specs.Evaluation.{names_along}
use Rattle.xp_outcome.specs.Recorded.{Recorded}
use Rattle.xp_outcome.specs.declared.names_along.NamesAlong.{NamesAlong}
use Rattle.cover_laws.specs.Covering.{has_touched, holds_touched}

-- A node that is renamed

module _ (T : Table) (t : Formed T) (n : ℕ) (name : NodeName) where
  abbrev later : Table
  later = renamed T n name

  kinds : (m : ℕ) → kind_of T m ≡ kind_of later m
  kinds m = kept.kind (renaming name) (renaming-kind name) T n t m

  parents : (m : ℕ) → parent_of T m ≡ parent_of later m
  parents m = kept.parent (renaming name) (renaming-kind name) T n t m

  kids : (m : ℕ) → kids_of T m ≡ kids_of later m
  kids m = kept.kids (renaming name) (renaming-kind name) T n t m

  attributes : (m : ℕ) → attrs_of T m ≡ attrs_of later m
  attributes m = kept.attributes (renaming name) (renaming-kind name) T n t m

  ways : (m : ℕ) → ancestors T m ≡ ancestors later m
  ways m = sym (same-ancestors (renaming name) (renaming-kind name) T n m)

  orders : order T ≡ order later
  orders = sym (same-order (renaming name) (renaming-kind name) T n t.forest t.whole)

  is-attribute : (m : ℕ) → is_attribute T m ≡ is_attribute later m
  is-attribute m = ap is_attribute_kind (kinds m)

  descendant : (k m : ℕ) → is_descendant T k m ≡ is_descendant later k m
  descendant k m = ap₂ (λ (l : List ℕ) (b : Bool). mem k l && not b) (ways m) (is-attribute m)

  behind : (k m : ℕ) → is_after T k m ≡ is_after later k m
  behind k m = ap (λ (l : List ℕ). mem m (after k l)) orders

  above-kids : (o : Option ℕ) → kids_above T o ≡ kids_above later o
  above-kids None = refl
  above-kids (Some p) = kids p

  beside : (k : ℕ) → kids_beside T k ≡ kids_beside later k
  beside k = ap₂ (λ (b : Bool) (l : List ℕ). cond b [] l) (is-attribute k) (above-kids (parent_of T k) ∙ ap (kids_above later) (parents k))

  -- apart from a node and what is above or below it
  apart : (a b : ℕ) (m : ℕ) (x y : Bool) → x ≡ y →
      (x && not (is_ancestor T a b) && not (is_attribute T m)) ≡ (y && not (is_ancestor later a b) && not (is_attribute later m))
  apart a b m x y same =
      ap (λ (v : Bool). v && not (is_ancestor T a b) && not (is_attribute T m)) same
      ∙ ap₂ (λ (l : List ℕ) (v : Bool). y && not (mem b l) && not v) (ways a) (is-attribute m)

  on : (axis : Axis) (k m : ℕ) → on_axis T axis k m ≡ on_axis later axis k m
  on Ancestor k m = ap (mem m) (ways k)
  on AncestorOrSelf k m = ap (λ (l : List ℕ). mem m l || (m == k)) (ways k)
  on Attribute k m = ap (mem m) (attributes k)
  on Child k m = ap (mem m) (kids k)
  on Descendant k m = descendant k m
  on DescendantOrSelf k m = ap (λ (b : Bool). b || (m == k)) (descendant k m)
  on Following k m = apart m k m (is_after T k m) (is_after later k m) (behind k m)
  on FollowingSibling k m = ap₂ (λ (l : List ℕ) (b : Bool). mem m l && b) (beside k) (behind k m)
  on Parent k m = ap (λ (o : Option ℕ). is_one o m) (parents k)
  on Preceding k m = apart k m m (is_after T m k) (is_after later m k) (behind m k)
  on PrecedingSibling k m = ap₂ (λ (l : List ℕ) (b : Bool). mem m l && b) (beside k) (behind m k)
  on SelfNode k m = refl

  in-order : (axis : Axis) (k : ℕ) → axis_order T axis k ≡ axis_order later axis k
  in-order axis k = ap₂ (λ (test : ℕ → Bool) (l : List ℕ). filter test l) (λ i m. on axis k m i) orders

  nodes : (axis : Axis) (k : ℕ) → axis_nodes T axis k ≡ axis_nodes later axis k
  nodes axis k = ap (λ (l : List ℕ). cond (is_reverse axis) (backwards l) l) (in-order axis k)

  -- the names along an axis are those of the same nodes
  names : (axis : Axis) (k : ℕ) → cells_of T (names_along axis k) ≡ cells_of later (names_along axis k)
  names axis k = ap₂ (λ (test : ℕ → Bool) (l : List ℕ). map Name (filter test l)) (λ i m. is_principal axis (kinds m i)) (nodes axis k)

-- Edits

-- where no name is touched, none along an axis is
none-touched : (touched : Cell → Bool) → ((m : ℕ) → touched (Name m) ≡ false) → (ms : List ℕ) → list_any touched (map Name ms) ≡ false
none-touched touched none [] = refl
none-touched touched none (m ∷ ms) = ap₂ (λ (a b : Bool). a || b) (none m) (none-touched touched none ms)

none-along : (touched : Cell → Bool) → ((m : ℕ) → touched (Name m) ≡ false) → (T : Table) (axis : Axis) (n : ℕ) →
    list_any touched (cells_of T (names_along axis n)) ≡ false
none-along touched none T axis n = none-touched touched none (filter (λ m. is_principal axis (kind_of T m)) (axis_nodes T axis n))

none-meets : (o : Option Meeting) (m : ℕ) → touched_meeting o (Name m) ≡ false
none-meets None m = refl
none-meets (Some texts) m = refl

module _ (T : Table) (form : WellFormed T) where
  -- where no name is touched, none is along an axis before or after
  neither : (U : Table) (touched : Cell → Bool) → ((m : ℕ) → touched (Name m) ≡ false) → (axis : Axis) (n : ℕ) →
      list_any touched (cells_of T (names_along axis n)) ≡ list_any touched (cells_of U (names_along axis n))
  neither U touched none axis n = none-along touched none T axis n ∙ sym (none-along touched none U axis n)

  pub names-alike : (U : Table) (touched : Cell → Bool) (axis : Axis) (n : ℕ) → Edit T U touched →
      list_any touched (cells_of T (names_along axis n)) ≡ list_any touched (cells_of U (names_along axis n))
  names-alike _ _ axis n (says m new may) = neither (said T m new) (touched_saying T m) (λ k. refl) axis n
  names-alike _ _ axis n (renames m name may) = ap (list_any (touched_name m)) (names T (formed-of T form) m name axis n)
  names-alike _ _ axis n (gains m name value may) = neither (gained T m name value) (touched_attributes m) (λ k. refl) axis n
  names-alike _ _ axis n (loses a m is up) = neither (removed T a) (touched_attributes m) (λ k. refl) axis n
  names-alike _ _ axis n (deletes m p kid up) = neither (deleted T m) (touched_deletion T m p) (λ k. none-meets (meeting T m (kids_of T p)) k) axis n
  names-alike _ _ axis n (inserts p before P fits may) = neither (inserted T p before P) (touched_kids T p) (λ k. refl) axis n

  pub told-alike : (U : Table) (touched : Cell → Bool) (held : Recorded) → Edit T U touched →
      holds_touched T touched held ≡ holds_touched U touched held
  told-alike U touched held edit =
      ap (λ (test : NamesAlong → Bool). has_touched touched held.cells || list_any test (items held.names))
      (λ i a. names-alike U touched a.axis a.node edit i)
