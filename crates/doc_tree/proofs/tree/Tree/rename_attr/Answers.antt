-- Nothing speaks against the name, and the document stays one.
use Rattle.std.proofs.Common.{ap, ◌∙◌, sym}
use Rattle.doc_table.specs.Kinds.{is_document}
use Rattle.doc_tree.specs.Edited.{attribute_name_at}
use Rattle.doc_tree.proofs.RenamingLemmas.{may-rename-attribute}
use Rattle.doc_tree.proofs.tree.Tree.rename_attr.Goals as goal

pub name_attribute-requires : goal.name_attribute-requires
name_attribute-requires c =
    may-rename-attribute c.args.self.now.nodes c.args.n c.in-Some-found.a c.args.old_prefix.now c.args.old_local.now c.args.prefix.now c.args.local.now
    c.laws.ensures.well_formed (sym c.name_pair_refusal.ensures ∙ c.in_default.is) (sym c.attribute_at-found.ensures ∙ c.in-Some-found.is)

pub returns-in_ok-name_attribute-in-Some-found-clause-document : goal.returns-in_ok-name_attribute-in-Some-found-clause-document
returns-in_ok-name_attribute-in-Some-found-clause-document c =
    ap is_document c.in_ok-name_attribute-in-Some-found.ensures.renamed
    ∙ c.edits_keep_documents.ensures.renaming c.args.self.now.nodes c.in-Some-found.a
    (attribute_name_at c.args.self.now.nodes c.args.n c.args.prefix.now c.args.local.now) c.requires.document
