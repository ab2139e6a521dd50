-- The tree is the root with one leaf.
use Rattle.std.proofs.Common.{subst}
use Rattle.doc_tree.specs.Growth.{Grew}
use Rattle.doc_tree.specs.Table.{root_alone}
use Rattle.name_scopes.specs.inner.Build.{leaf_of}
use Rattle.name_scopes.proofs.LonePiece.{lone-piece}
use Rattle.name_scopes.proofs.subtree.load_leaf.Goals as goal

pub returns : goal.returns
returns c = λ around.
    let U = c.append_leaf.new.tree.nodes in
    let content = leaf_of c.args.event.now in
    lone-piece c.args.event.now U c.in_ok-append_leaf.field-0 around c.requires.leaf c.requires.fits
    (subst (λ p. Grew root_alone.nodes U p c.in_ok-append_leaf.field-0 content) c.root-root.ensures
    (subst (λ t. Grew t.nodes U c.root-root.result c.in_ok-append_leaf.field-0 content) c.in_ok-tree.ensures c.in_ok-append_leaf.ensures))
