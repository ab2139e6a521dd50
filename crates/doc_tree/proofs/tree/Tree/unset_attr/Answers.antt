-- An attribute of the element may go, and the document stays one.
use Rattle.std.proofs.Common.{ap, ◌∙◌, sym, subst}
use Rattle.doc_table.specs.Kinds.{is_document}
use Rattle.doc_table.specs.Table.{Contents}
use Rattle.doc_edits.specs.Changes.{removed}
use Rattle.doc_edits.specs.Fitting.{MayGo}
use Rattle.doc_tree.proofs.AttributeLemmas.{document-stays, found-member, may-go}
use Rattle.doc_tree.proofs.tree.Tree.unset_attr.Goals as goal

pub remove-requires-clause-may : goal.remove-requires-clause-may
remove-requires-clause-may c =
    subst (λ (t : Contents). MayGo t.nodes c.in-Some-found.a) (sym c.self.view_is)
    (may-go c.args.self.now.nodes c.laws.ensures.well_formed c.laws.ensures.ways_up c.args.n c.in-Some-found.a
    (found-member c.args.self.now.nodes c.args.n c.in-Some-found.a c.args.prefix.now c.args.local.now (sym c.attribute_at-found.ensures ∙ c.in-Some-found.is)))

pub returns-in-Some-found-clause-document : goal.returns-in-Some-found-clause-document
returns-in-Some-found-clause-document c =
    ap is_document c.remove.ensures.removed
    ∙ (ap (λ (t : Contents). is_document (removed t.nodes c.in-Some-found.a)) c.self.view_is
    ∙ document-stays c.args.self.now.nodes c.laws.ensures.well_formed c.laws.ensures.ways_up c.args.n c.in-Some-found.a
    (found-member c.args.self.now.nodes c.args.n c.in-Some-found.a c.args.prefix.now c.args.local.now (sym c.attribute_at-found.ensures ∙ c.in-Some-found.is))
    c.edits_keep_documents.ensures c.requires.document)
