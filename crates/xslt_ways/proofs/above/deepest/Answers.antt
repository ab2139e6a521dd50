-- The deepest of those before and the next node are on one way, and the deeper of them is the deepest.
use Rattle.std.proofs.Common.{◌≡◌, ℕ, List, true, Bool, ◌||◌, take, sym, ap, ◌∙◌, subst}
use Rattle.std.proofs.lemmas.List.Folds.{list_any_more}
use Rattle.std.specs.List.{list_any}
use Rattle.doc_tree.specs.Lists.{mem}
use Rattle.doc_tree.specs.Walks.{above}
use Rattle.doc_tree.proofs.ListLemmas.{mem-get}
use Rattle.xslt_ways.proofs.WayLemmas.{some_weaker}
use Rattle.xslt_ways.proofs.above.deepest.Goals as goal

pub deeper-requires : goal.deeper-requires
deeper-requires c =
    let T = c.args.tree.now.nodes in
    let nodes : List ℕ = c.args.nodes.now in
    let p : ℕ = c.p-item.result in
    let listed : mem p nodes ≡ true = subst (λ m. mem m nodes ≡ true) (sym c.p-item.is) (mem-get nodes c.loop-p.p-index p c.loop-p-test.true) in
    some_weaker c.loop-p.end (λ a. mem a nodes ≡ true) (λ a. (mem a (above T p) || mem p (above T a)) ≡ true)
    (λ a h. c.requires a p h listed) c.loop-p.invariant.one

pub loop-p-preserved : goal.loop-p-preserved
loop-p-preserved c =
    let T = c.args.tree.now.nodes in
    let nodes : List ℕ = c.args.nodes.now in
    let i : ℕ = c.loop-p.p-index in
    let p : ℕ = c.p-item.result in
    let listed : mem p nodes ≡ true = subst (λ m. mem m nodes ≡ true) (sym c.p-item.is) (mem-get nodes i p c.loop-p-test.true) in
    record {
      one = c.deeper.ensures.one nodes c.loop-p.invariant.one listed;
      below = λ m.
          let test : ℕ → Bool = λ q. mem m (above T q) in
          c.deeper.ensures.below m
          ∙ (ap (λ b. b || test p) (c.loop-p.invariant.below m)
          ∙ sym (list_any_more test nodes i p c.loop-p-test.true ∙ ap (λ q. list_any test (take i nodes) || test q) (sym c.p-item.is)));
    }
