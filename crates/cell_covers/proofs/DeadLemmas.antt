-- From a number at which no node lives upward axes lead nowhere.
use Rattle.std.proofs.Common.{◌≡◌, ℕ, Bool, true, false, cond, ◌||◌, ◌==◌, List, [], Option, None, Some, is_some, refl, sym, ap, ap₂, ◌∙◌}
use Rattle.std.proofs.lemmas.Bool.{eqb-true, false_from_ne_true, false≢true}
use Rattle.doc_tree.specs.declared.axes.Axis.{Axis}
use Rattle.doc_tree.specs.declared.axes.Axis.TheVariants.{Ancestor, AncestorOrSelf, Parent, SelfNode}
use Rattle.doc_tree.specs.Laws.{HasWaysUp, Ordered}
use Rattle.doc_tree.specs.Lists.{mem}
use Rattle.doc_tree.specs.Table.{Facts, Table, entry_at, is_live, parent_at, parent_of}
use Rattle.doc_tree.specs.Walks.{order}
use Rattle.doc_tree.proofs.ListLemmas.{In-mem}
use Rattle.doc_axes.specs.Axes.{axis_nodes, axis_order, backwards, is_one, is_reverse, on_axis}
use Rattle.doc_axes.proofs.SubLists.{filter-none}
use Rattle.cover_laws.specs.Covering.{is_upward}

either-way : (b : Bool) → cond {A = List ℕ} b [] [] ≡ []
either-way true = refl
either-way false = refl

module _ (T : Table) (ord : Ordered T) (ways : HasWaysUp T) (n : ℕ) (dead : is_live T n ≡ false) where
  no-parent : parent_of T n ≡ None
  no-parent = by (entry_at T n) dead
    where
      by : (o : Option Facts) → is_some o ≡ false → parent_at o ≡ None
      by None h = refl
      by (Some node) h = absurd (false≢true (sym h))

  -- it is no live node
  apart : (m : ℕ) → is_live T m ≡ true → (m == n) ≡ false
  apart m live = false_from_ne_true (m == n) (λ e. false≢true (sym dead ∙ ap (is_live T) (sym (eqb-true m n e)) ∙ live))

  off-axis : (axis : Axis) → is_upward axis ≡ true → (m : ℕ) → is_live T m ≡ true → on_axis T axis n m ≡ false
  off-axis Ancestor up m live = ap (mem m) (ways.no_ancestors n no-parent)
  off-axis AncestorOrSelf up m live = ap₂ (λ (a b : Bool). a || b) (ap (mem m) (ways.no_ancestors n no-parent)) (apart m live)
  off-axis Parent up m live = ap (λ (o : Option ℕ). is_one o m) no-parent
  off-axis SelfNode up m live = apart m live
  off-axis _ up m live = absurd (false≢true up)

  pub dead-axis : (axis : Axis) → is_upward axis ≡ true → axis_nodes T axis n ≡ []
  dead-axis axis up =
      let none : axis_order T axis n ≡ [] =
      filter-none (on_axis T axis n) (order T) (λ m among. off-axis axis up m (ord.live_in_order m ∙ In-mem m (order T) among)) in
      ap (λ (ms : List ℕ). cond (is_reverse axis) (backwards ms) ms) none ∙ either-way (is_reverse axis)
