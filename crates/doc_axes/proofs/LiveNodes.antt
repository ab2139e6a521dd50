-- Nodes on axes live, and all nodes pass the test for any node.
use Rattle.std.proofs.Common.{◌≡◌, ℕ, Bool, true, false, cond, ◌||◌, List, [], ◌∷◌, eqb, refl, sym, ◌∙◌, ap}
use Rattle.std.specs.Prelude.{filter}
use Rattle.doc_tree.specs.declared.axes.Axis.{Axis}
use Rattle.doc_tree.specs.declared.axes.NodeTest.TheVariants.{Any}
use Rattle.doc_tree.specs.Laws.{Ordered}
use Rattle.doc_tree.specs.Lists.{mem}
use Rattle.doc_tree.specs.Table.{Table, is_live}
use Rattle.doc_tree.specs.Walks.{order}
use Rattle.doc_tree.proofs.ListLemmas.{mem-tail}
use Rattle.doc_axes.specs.Axes.{axis_nodes, axis_order, backwards, is_reverse, on_axis}
use Rattle.doc_axes.specs.NodeTests.{passes}
use Rattle.doc_axes.proofs.SubLists.{mem-same, occurs-backwards}

pub all_pass : (T : Table) (axis : Axis) (ns : List ℕ) → filter (passes T axis Any) ns ≡ ns
all_pass T axis [] = refl
all_pass T axis (n ∷ ns) = ap (λ l. n ∷ l) (all_pass T axis ns)

module _ (T : Table) (ord : Ordered T) where
  filtered_in : (p : ℕ → Bool) (m : ℕ) (xs : List ℕ) → mem m (filter p xs) ≡ true → mem m xs ≡ true
  filtered_in p m [] h = h
  filtered_in p m (x ∷ xs) h =
      elim (p x) as (λ b. mem m (cond b (x ∷ filter p xs) (filter p xs)) ≡ true → (eqb m x || mem m xs) ≡ true) [
        | true ↦ elim (eqb m x) as (λ e. (e || mem m (filter p xs)) ≡ true → (e || mem m xs) ≡ true) [ true ↦ λ k. refl | false ↦ λ k. filtered_in p m xs k ]
        | false ↦ λ k. mem-tail m x xs (filtered_in p m xs k)
      ] h

  on_order : (axis : Axis) (n m : ℕ) (b : Bool) → mem m (cond b (backwards (axis_order T axis n)) (axis_order T axis n)) ≡ true → mem m (axis_order T axis n) ≡ true
  on_order axis n m true h = mem-same m (axis_order T axis n) (backwards (axis_order T axis n)) (sym (occurs-backwards m (axis_order T axis n))) ∙ h
  on_order axis n m false h = h

  pub axis_live : (axis : Axis) (n m : ℕ) → mem m (axis_nodes T axis n) ≡ true → is_live T m ≡ true
  axis_live axis n m h = ord.live_in_order m ∙ filtered_in (on_axis T axis n) m (order T) (on_order axis n m (is_reverse axis) h)
