-- Behind `//` a step looks for candidates at a node from all above it.
use Rattle.std.proofs.Common.{◌≡◌, ℕ, List, IfOk, sym, ap, ◌∙◌, subst}
use Rattle.std.proofs.lemmas.Result.{IfOk-weaker}
use Rattle.std.specs.List.{list_any}
use Rattle.doc_tree.specs.Lists.{mem}
use Rattle.doc_tree.specs.Walks.{above}
use Rattle.xslt_ways.specs.Ways.{looks_at}
use Rattle.xslt_ways.proofs.looking.ends_of.Goals as goal

pub returns-in-DoubleSlash : goal.returns-in-DoubleSlash
returns-in-DoubleSlash c =
    let T = c.args.tree.now.nodes in
    let nodes : List ℕ = c.args.nodes in
    subst (λ j. IfOk c.deepest_alone.result (λ v. (m : ℕ) → list_any (looks_at T j m) v ≡ list_any (looks_at T j m) nodes)) (sym c.in-DoubleSlash.is)
    (IfOk-weaker c.deepest_alone.result (λ v. (m : ℕ) → list_any (λ p. mem m (above T p)) v ≡ list_any (λ p. mem m (above T p)) c.as_slice.result.now)
    (λ v. (m : ℕ) → list_any (λ p. mem m (above T p)) v ≡ list_any (λ p. mem m (above T p)) nodes)
    (λ v h m. h m ∙ ap (list_any (λ p. mem m (above T p))) c.as_slice.ensures)
    c.deepest_alone.ensures)
