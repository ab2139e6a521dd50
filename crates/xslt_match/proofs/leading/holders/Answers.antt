-- The next node's holder comes last, where it has one.
use Rattle.std.proofs.Common.{◌≡◌, ℕ, ◌+◌, ◌++◌, ◌∷◌, [], List, Option, take, get_or, sym, ap, ◌∙◌, append-nil}
use Rattle.std.specs.List.{filter_map, cons_option}
use Rattle.xp_typed_tree.specs.TypedView.{pattern_step_seen}
use Rattle.xslt_match.specs.inner.Leading.{holder}
use Rattle.xslt_match.proofs.Filters.{given_more}
use Rattle.xslt_match.proofs.leading.holders.Goals as goal
use Rattle.xslt_match.proofs.leading.holders.Goals.{in-Some+in_ok-push, in_default}

pub loop-k-preserved : goal.loop-k-preserved
loop-k-preserved c =
    let h : ℕ → Option ℕ = holder c.args.tree.now.nodes (pattern_step_seen c.args.step.now) in
    let xs : List ℕ = c.args.nodes.now in
    let i : ℕ = c.loop-k.k-index in
    let found : List ℕ = filter_map h (take i xs) in
    let here : h (get_or xs i c.k-item.result) ≡ c.holder.result = ap h (sym c.k-item.is) ∙ sym c.holder.ensures in
    let next : filter_map h (take (i + 1) xs) ≡ found ++ cons_option c.holder.result [] =
    given_more h xs i c.k-item.result c.loop-k-test.true ∙ ap (λ o. found ++ cons_option o []) here in
    elim c.match-holder.branch [
      | in-Some+in_ok-push w ↦
          w.found-is ∙ (w.in_ok-push.ensures.pushed ∙ (ap (λ l. l ++ w.in-Some.parent ∷ []) c.loop-k.invariant
          ∙ sym (next ∙ ap (λ o. found ++ cons_option o []) w.in-Some.is)))
      | in_default w ↦
          w.found-is ∙ (c.loop-k.invariant ∙ sym (next ∙ (ap (λ o. found ++ cons_option o []) w.in_default.is ∙ append-nil found)))
    ]
