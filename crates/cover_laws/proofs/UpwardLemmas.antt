-- Upward axes: the nodes on them are the same before edits and after, and so are their names.
use Rattle.std.proofs.Common.{◌≡◌, ℕ, Bool, true, false, ◌||◌, ◌==◌, cond, List, [], Option, None, Some, refl, sym, ap, ◌∙◌, ⊎_elim}
use Rattle.std.specs.Prelude.{filter, map}
use Rattle.std.specs.FinSet.{contains}
use Rattle.std.proofs.lemmas.Bool.{and_from, eqb-true, false≢true, or_cases, or_right}
use Rattle.doc_table.proofs.Forests.{formed-of}
use Rattle.doc_tree.specs.cell.Cell.TheVariants.{Name}
use Rattle.doc_tree.specs.cell.Cell.{Cell}
use Rattle.doc_tree.specs.declared.axes.Axis.{Axis}
use Rattle.doc_tree.specs.declared.axes.Axis.TheVariants.{Ancestor, AncestorOrSelf, Parent, SelfNode}
use Rattle.doc_tree.specs.Lists.{mem}
use Rattle.doc_tree.specs.Table.{Table, is_live, kind_of, parent_of}
use Rattle.doc_tree.specs.Walks.{ancestors}
use Rattle.doc_tree.proofs.ListLemmas.{In-mem}
use Rattle.doc_axes.specs.Axes.{axis_nodes, axis_order, backwards, is_one, is_reverse, on_axis}
use Rattle.doc_axes.specs.NodeTests.{is_principal}
use Rattle.doc_axes.proofs.LiveNodes.{axis_live}
use Rattle.doc_axes.proofs.SubLists.{filter-same}
use Rattle.doc_edit_laws.specs.Agreement.{IsTree, Stays}
use Rattle.doc_edit_laws.specs.Along.{Left}
use Rattle.doc_edit_laws.proofs.OrderLemmas.{orders-alike}
use Rattle.doc_edit_laws.proofs.TextLemmas.{ways-alike}
use Rattle.xp_outcome.specs.Recorded.{NamesSet}
use Rattle.xp_outcome.specs.declared.names_along.NamesAlong.{NamesAlong}
use Rattle.xp_outcome.proofs.Sets.{names_cmp_antisymmetric, names_cmp_total}
use Rattle.cover_laws.specs.Covering.{is_upward, names_at, upward_cells}
use Rattle.cover_laws.proofs.CoverLemmas.{up-live}
use Rattle.xp_outcome.proofs.SetTests.{all_joined_alike}

-- what is above a live node lives
higher-live : (T : Table) → IsTree T → (n m : ℕ) → is_live T n ≡ true → mem m (ancestors T n) ≡ true → is_live T m ≡ true
higher-live T tree n m live h = up-live T tree.well_formed tree.ways_up n live m (or_right (m == n) (mem m (ancestors T n)) h)

-- and what stands on an upward axis from it
on-live : (T : Table) → IsTree T → (axis : Axis) → is_upward axis ≡ true → (n m : ℕ) → is_live T n ≡ true → on_axis T axis n m ≡ true →
    is_live T m ≡ true
on-live T tree Ancestor up n m live h = higher-live T tree n m live h
on-live T tree AncestorOrSelf up n m live h =
    ⊎_elim (higher-live T tree n m live)
    (λ (g : (m == n) ≡ true). ap (is_live T) (eqb-true m n g) ∙ live) (or_cases (mem m (ancestors T n)) (m == n) h)
on-live T tree Parent up n m live h = by (parent_of T n) refl h
  where
    by : (o : Option ℕ) → parent_of T n ≡ o → is_one o m ≡ true → is_live T m ≡ true
    by None e g = absurd (false≢true g)
    by (Some p) e g = tree.ways_up.parent_live n m (e ∙ ap Some (sym (eqb-true m p g)))
on-live T tree SelfNode up n m live h = ap (is_live T) (eqb-true m n h) ∙ live
on-live T tree _ up n m live h = absurd (false≢true up)

module _ (T U : Table) (touched : Cell → Bool) (left : Left T U touched) where
  same-way : (n : ℕ) → Stays T U n → ancestors T n ≡ ancestors U n
  same-way n stays =
      ways-alike T U (formed-of T left.before.well_formed) (formed-of U left.after.well_formed) left.agree.parent n stays

  same-on : (axis : Axis) → is_upward axis ≡ true → (n : ℕ) → Stays T U n → (m : ℕ) → on_axis T axis n m ≡ on_axis U axis n m
  same-on Ancestor up n stays m = ap (mem m) (same-way n stays)
  same-on AncestorOrSelf up n stays m = ap (λ (l : List ℕ). mem m l || (m == n)) (same-way n stays)
  same-on Parent up n stays m = ap (λ (o : Option ℕ). is_one o m) (left.agree.parent n stays)
  same-on SelfNode up n stays m = refl
  same-on _ up n stays m = absurd (false≢true up)

  module _ (axis : Axis) (up : is_upward axis ≡ true) (n : ℕ) (old : is_live T n ≡ true) (new : is_live U n ≡ true) where
    stays : Stays T U n
    stays = and_from (is_live T n) (is_live U n) old new

    on-stays : (m : ℕ) → on_axis T axis n m ≡ true → Stays T U m
    on-stays m h =
        and_from (is_live T m) (is_live U m) (on-live T left.before axis up n m old h)
        (on-live U left.after axis up n m new (sym (same-on axis up n stays m) ∙ h))

    same-order : axis_order T axis n ≡ axis_order U axis n
    same-order =
        orders-alike T U left.agree.in_order (on_axis T axis n) (on_axis U axis n) on-stays
        (λ m h. on-stays m (same-on axis up n stays m ∙ h)) (λ m _. same-on axis up n stays m)

    same-nodes : axis_nodes T axis n ≡ axis_nodes U axis n
    same-nodes = ap (λ (l : List ℕ). cond (is_reverse axis) (backwards l) l) same-order

    same-names : names_at T (record { axis = axis; node = n }) ≡ names_at U (record { axis = axis; node = n })
    same-names =
        ap (map Name) (filter-same (λ m. is_principal axis (kind_of T m)) (λ m. is_principal axis (kind_of U m)) (axis_nodes T axis n) (λ m among.
        let there : mem m (axis_nodes T axis n) ≡ true = In-mem m (axis_nodes T axis n) among in
        let both : Stays T U m = and_from (is_live T m) (is_live U m) (axis_live T left.before.ordered axis n m there)
        (axis_live U left.after.ordered axis n m (ap (mem m) (sym same-nodes) ∙ there)) in
        ap (is_principal axis) (left.agree.kind m both)))
        ∙ ap (λ (l : List ℕ). map Name (filter (λ m. is_principal axis (kind_of U m)) l)) same-nodes

  pub upward-alike : (names : NamesSet) → ((a : NamesAlong) → contains names a ≡ true → is_live T a.node ≡ true) →
      ((a : NamesAlong) → contains names a ≡ true → is_live U a.node ≡ true) → upward_cells T names ≡ upward_cells U names
  upward-alike names old new =
      all_joined_alike names_cmp_total names_cmp_antisymmetric (λ a. cond (is_upward a.axis) (names_at T a) [])
      (λ a. cond (is_upward a.axis) (names_at U a) []) names
      (λ a there. by a there (is_upward a.axis) refl)
    where
      by : (a : NamesAlong) → contains names a ≡ true → (b : Bool) → is_upward a.axis ≡ b → cond b (names_at T a) [] ≡ cond b (names_at U a) []
      by a there true up = same-names a.axis up a.node (old a there) (new a there)
      by a there false other = refl
