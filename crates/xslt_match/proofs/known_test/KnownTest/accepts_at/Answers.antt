use Rattle.std.proofs.Common.{◌&&◌, ◌∙◌, ap, sym}
use Rattle.std.proofs.lemmas.Option.{IfSome_then}
use Rattle.doc_tree.specs.Table.{kind_of}
use Rattle.doc_axes.specs.Judging.{accepts}
use Rattle.doc_axes.specs.NodeTests.{is_principal, named}
use Rattle.xslt_match.proofs.KnownNames.{by_its_name}
use Rattle.xslt_match.proofs.known_test.KnownTest.accepts_at.Goals as goal

pub returns : goal.returns
returns c = λ node_test axis known.
    let T = c.args.tree.now.nodes in
    IfSome_then c.known.result (c.known.ensures c.args.tree.now.names node_test known) (λ accepted k.
    by_its_name T c.args.n axis node_test k.by_name
    ∙ ap (λ b. is_principal axis (kind_of T c.args.n) && b) (ap (λ o. named o (accepts node_test)) (sym c.in_ok-name.ensures.name) ∙ k.accepted))
