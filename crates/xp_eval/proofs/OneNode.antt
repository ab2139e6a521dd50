-- What a step selects from one node.
use Rattle.std.proofs.Common.{◌≡◌, ℕ, Bool, true, false, if◌then◌else◌, List, [], ◌∷◌, ◌++◌, Ok, refl, sym, ◌∙◌, ap, subst, append-nil}
use Rattle.std.specs.Prelude.{filter}
use Rattle.doc_tree.specs.Laws.{Ordered}
use Rattle.doc_tree.specs.Lists.{mem}
use Rattle.doc_tree.specs.Table.{Table}
use Rattle.doc_tree.specs.Walks.{order}
use Rattle.doc_axes.specs.Axes.{axis_nodes, axis_order, backwards, is_reverse, on_axis}
use Rattle.doc_axes.specs.NodeTests.{passes}
use Rattle.doc_axes.specs.Sets.{in_order}
use Rattle.doc_axes.proofs.SubLists as subs
use Rattle.doc_axes.proofs.SubLists.{Sub, sub-all, sub-append, sub-front, filter-sub, backwards-twice, mem-same, occurs-backwards}
use Rattle.xp_outcome.specs.Evaluation.{done, bind, behind, visits, all_reading}
use Rattle.xp_outcome.specs.Recorded.{Recorded}
use Rattle.xp_outcome.specs.Running.{Answered, Ran}
use Rattle.xp_outcome.proofs.Outcomes.{bind_alike, bind-done}
use Rattle.xp_values.specs.declared.values.EvalFault.{EvalFault}
use Rattle.xp_meaning.specs.Paths.{Step, candidates, filtered, step_at, step_from}
use Rattle.xp_meaning.proofs.Choices.{came_before, same_ok, filter-keeps, filtered-sub, sub-trans}
use Rattle.xp_eval.proofs.Views.{bind_mapped}

-- what a list keeps of another it keeps from its end, too
sub_backwards : {xs ys : List ℕ} → Sub xs ys → Sub (backwards xs) (backwards ys)
sub_backwards subs.done = subs.done
sub_backwards (subs.skip {x = x} s) = sub-front (x ∷ []) (sub_backwards s)
sub_backwards (subs.keep {x = x} s) = sub-append (sub_backwards s) (sub-all (x ∷ []))

turned_sub : (b : Bool) (xs ys : List ℕ) → Sub xs (if b then backwards ys else ys) → Sub (if b then backwards xs else xs) ys
turned_sub true xs ys s = subst (λ l. Sub (backwards xs) l) (backwards-twice ys) (sub_backwards s)
turned_sub false xs ys s = s

turned_mem : (b : Bool) (m : ℕ) (xs : List ℕ) → mem m xs ≡ mem m (if b then backwards xs else xs)
turned_mem true m xs = sym (mem-same m (backwards xs) xs (occurs-backwards m xs))
turned_mem false m xs = refl

module _ (T : Table) (s : Step) (current n : ℕ) where
  -- it is what the step selects at the node, in document order
  pub from_one : step_from T s current (n ∷ []) ≡ bind (step_at T s current n) (λ ms. done (in_order T ms))
  from_one =
      ap (λ m. bind m (λ ms. done (in_order T ms)))
      (bind_alike (step_at T s current n) (λ v. bind (done []) (λ rest. done (v ++ rest))) (λ v. done v)
      (λ v. bind-done [] (λ rest. done (v ++ rest)) ∙ ap (λ l. done {F = EvalFault} l) (append-nil v)))
      ∙ bind_mapped (step_at T s current n) (λ v. v) (λ ms. done (in_order T ms))

  -- it keeps some nodes of the axis, in the axis's own order
  selected_sub : (v : List ℕ) → (step_at T s current n).answer ≡ Ok v → Sub v (axis_nodes T s.axis n)
  unfolding candidates all_reading visits behind done
  selected_sub v is =
      let found : List ℕ = filter (passes T s.axis s.test) (axis_nodes T s.axis n) in
      let one = came_before (candidates T s.axis s.test n) (λ ms. filtered s.predicates current ms) v is in
      sub-trans (filtered-sub s.predicates current one.first v one.then)
      (subst (λ l. Sub l (axis_nodes T s.axis n)) (same_ok {F = EvalFault} found one.first one.is) (filter-keeps (passes T s.axis s.test) (axis_nodes T s.axis n)))

  -- so it stands in document order once it is turned round on an axis that runs backwards
  pub turned_in_order : Ordered T → (v : List ℕ) {held now : Recorded} {before after : ℕ} → Ran (step_at T s current n) (Ok v) held now before after →
      (if is_reverse s.axis then backwards v else v) ≡ in_order T v
  turned_in_order ord v {held} {now} {before} {after} ran =
      let c : Answered (step_at T s current n) v held now before after = ran.computes in
      let kept : Sub (if is_reverse s.axis then backwards v else v) (order T) =
      sub-trans (turned_sub (is_reverse s.axis) v (axis_order T s.axis n) (selected_sub v c.answer)) (filter-keeps (on_axis T s.axis n) (order T)) in
      sym (filter-sub (λ m. mem m v) kept ord.once (λ m h. turned_mem (is_reverse s.axis) m v))
