-- Each node is one of those that are no attributes.
use Rattle.std.proofs.Common.{◌≡◌, true, sym, subst}
use Rattle.doc_tree.specs.Lists.{mem}
use Rattle.doc_tree.proofs.ListLemmas.{mem-get}
use Rattle.doc_axes.proofs.walks.push_each_plain.Goals as goal

pub push_plain-requires : goal.push_plain-requires
push_plain-requires c =
    let nodes = c.args.nodes.now in
    c.requires c.n-item.result (subst (λ m. mem m nodes ≡ true) (sym c.n-item.is) (mem-get nodes c.loop-n.n-index c.n-item.result c.loop-n-test.true))
