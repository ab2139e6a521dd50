-- The list is the deepest node, where there is one.
use Rattle.std.proofs.Common.{ℕ, ◌++◌, ◌∷◌, [], Bool, true, sym, ap, ◌∙◌}
use Rattle.std.specs.List.{list_any}
use Rattle.doc_tree.specs.Lists.{mem}
use Rattle.doc_tree.specs.Walks.{above}
use Rattle.xslt_ways.specs.Ways.{looks_there}
use Rattle.xslt_ways.proofs.WayLemmas.{or-false}
use Rattle.xslt_ways.proofs.above.deepest_alone.Goals as goal
use Rattle.xslt_ways.proofs.above.deepest_alone.Goals.{in-Some+in_ok-push, in_default}

pub returns : goal.returns
returns c = λ m.
    let T = c.args.tree.now.nodes in
    let test : ℕ → Bool = λ p. mem m (above T p) in
    elim c.match-deepest.branch [
      | in-Some+in_ok-push w ↦
          let node : ℕ = w.in-Some.node in
          ap (list_any test) (w.list-is ∙ (w.in_ok-push.ensures.pushed ∙ ap (λ l. l ++ node ∷ []) c.new-list.ensures))
          ∙ (or-false (test node) ∙ (ap (looks_there T true m) (sym w.in-Some.is) ∙ c.deepest.ensures m))
      | in_default w ↦
          ap (list_any test) (w.list-is ∙ c.new-list.ensures) ∙ (ap (looks_there T true m) (sym w.in_default.is) ∙ c.deepest.ensures m)
    ]
