-- The document element stays.
use Rattle.std.proofs.Common.{ap, ◌∙◌, sym, subst}
use Rattle.doc_table.specs.Kinds.{is_document}
use Rattle.doc_table.specs.Table.{Contents}
use Rattle.doc_table.specs.inner.Parts.{contents, table_of}
use Rattle.doc_table.specs.Laws.{WellFormed}
use Rattle.doc_table.proofs.TreeLaws.{well-formed}
use Rattle.doc_edits.specs.Changes.{deleted}
use Rattle.std.proofs.lemmas.Result.{IfOk-from_err}
use Rattle.doc_names.proofs.NameLemmas.{on_err}
use Rattle.doc_tree.proofs.DeleteLemmas.{document-kept}
use Rattle.doc_tree.proofs.tree.Tree.delete.Goals as goal

pub returns-clause-document : goal.returns-clause-document
returns-clause-document c =
    ap is_document c.in_ok-delete.ensures.deleted
    ∙ (ap (λ (t : Contents). is_document (deleted t.nodes c.args.n)) c.self.view_is
    ∙ document-kept c.args.self.now.nodes c.args.n c.deletion_refusal.result c.edits_keep_documents.ensures
    (subst (λ (t : Contents). WellFormed t.nodes) c.self.view_is (well-formed (table_of c.self.inside.bare) c.self.invariant.0.formed)) c.deletion_refusal.ensures c.in_default.is c.requires.document)

-- where something speaks against it

pub returns-in-Some-clause-document : goal.returns-in-Some-clause-document
returns-in-Some-clause-document c = c.requires.document

pub returns-in-Some-clause-refused : goal.returns-in-Some-clause-refused
returns-in-Some-clause-refused c = sym c.deletion_refusal.ensures ∙ c.in-Some.is

-- where two texts that meet find no memory

pub returns-in_err-delete-clause-within : goal.returns-in_err-delete-clause-within
returns-in_err-delete-clause-within c = IfOk-from_err c.from_residual.result _ c.from_residual.ensures.0

pub returns-in_err-delete-clause-edited : goal.returns-in_err-delete-clause-edited
returns-in_err-delete-clause-edited c = IfOk-from_err c.from_residual.result _ c.from_residual.ensures.0

pub returns-in_err-delete-clause-document : goal.returns-in_err-delete-clause-document
returns-in_err-delete-clause-document c = ap (λ parts. is_document (table_of parts)) c.in_err-delete.ensures.unchanged ∙ (ap (λ (t : Contents). is_document t.nodes) c.self.view_is ∙ c.requires.document)

pub returns-in_err-delete-clause-names : goal.returns-in_err-delete-clause-names
returns-in_err-delete-clause-names c = c.delete.ensures.names ∙ ap (λ (t : Contents). t.names) c.self.view_is

pub returns-in_err-delete-clause-cap : goal.returns-in_err-delete-clause-cap
returns-in_err-delete-clause-cap c = c.delete.ensures.cap ∙ ap (λ (t : Contents). t.pair_cap) c.self.view_is

pub returns-in_err-delete-clause-unchanged : goal.returns-in_err-delete-clause-unchanged
returns-in_err-delete-clause-unchanged c = on_err c.from_residual.result _ (ap contents c.in_err-delete.ensures.unchanged ∙ c.self.view_is)

-- where it is gone

pub returns-clause-within : goal.returns-clause-within
returns-clause-within c = sym c.deletion_refusal.ensures ∙ c.in_default.is

pub returns-clause-edited : goal.returns-clause-edited
returns-clause-edited c = c.in_ok-delete.ensures.deleted ∙ ap (λ (t : Contents). deleted t.nodes c.args.n) c.self.view_is

pub returns-clause-names : goal.returns-clause-names
returns-clause-names c = c.delete.ensures.names ∙ ap (λ (t : Contents). t.names) c.self.view_is

pub returns-clause-cap : goal.returns-clause-cap
returns-clause-cap c = c.delete.ensures.cap ∙ ap (λ (t : Contents). t.pair_cap) c.self.view_is
