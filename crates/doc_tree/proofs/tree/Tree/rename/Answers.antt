-- Nothing speaks against the name, and the document stays one.
use Rattle.std.proofs.Common.{ap, ◌∙◌, sym}
use Rattle.doc_table.specs.Kinds.{is_document}
use Rattle.doc_tree.specs.Edited.{element_name_at}
use Rattle.doc_tree.proofs.RenamingLemmas.{may-rename}
use Rattle.doc_tree.proofs.tree.Tree.rename.Goals as goal

pub name_element-requires : goal.name_element-requires
name_element-requires c =
    may-rename c.args.self.now.nodes c.args.n c.args.prefix.now c.args.local.now c.laws.ensures.well_formed (sym c.renaming_refusal.ensures ∙ c.in_default.is)

pub returns-clause-document : goal.returns-clause-document
returns-clause-document c =
    ap is_document c.in_ok-name_element.ensures.renamed
    ∙ c.edits_keep_documents.ensures.renaming c.args.self.now.nodes c.args.n (element_name_at c.args.self.now.nodes c.args.n c.args.prefix.now c.args.local.now) c.requires.document
