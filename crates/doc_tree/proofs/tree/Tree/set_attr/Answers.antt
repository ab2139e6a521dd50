-- Nothing speaks against the value, and the document stays one.
use Rattle.std.proofs.Common.{[], ap, ◌∙◌, sym, append-nil}
use Rattle.doc_table.specs.Kinds.{is_document}
use Rattle.doc_table.specs.Table.{Contents}
use Rattle.std.proofs.lemmas.Result.{IfOk-from_err}
use Rattle.doc_names.proofs.NameLemmas.{on_err}
use Rattle.doc_tree.proofs.Outcomes.{wanting}
use Rattle.doc_tree.proofs.AttributeLemmas.{set-document}
use Rattle.doc_tree.proofs.tree.Tree.set_attr.Goals as goal

-- where something speaks against it

pub returns-in-Some-clause-document : goal.returns-in-Some-clause-document
returns-in-Some-clause-document c = c.requires.document

pub returns-in-Some-clause-names : goal.returns-in-Some-clause-names
returns-in-Some-clause-names c = ([], sym (append-nil c.args.self.now.names))

pub returns-in-Some-clause-refused : goal.returns-in-Some-clause-refused
returns-in-Some-clause-refused c = sym c.setting_refusal.ensures ∙ c.in-Some.is

-- where nothing does

pub put_attribute-requires-clause-free : goal.put_attribute-requires-clause-free
put_attribute-requires-clause-free c = sym c.setting_refusal.ensures ∙ c.in_default.is

pub returns-in_err-put_attribute-clause-within : goal.returns-in_err-put_attribute-clause-within
returns-in_err-put_attribute-clause-within c = IfOk-from_err c.from_residual.result _ c.from_residual.ensures.0

pub returns-in_err-put_attribute-clause-edited : goal.returns-in_err-put_attribute-clause-edited
returns-in_err-put_attribute-clause-edited c = IfOk-from_err c.from_residual.result _ c.from_residual.ensures.0

pub returns-in_err-put_attribute-clause-document : goal.returns-in_err-put_attribute-clause-document
returns-in_err-put_attribute-clause-document c = ap (λ (t : Contents). is_document t.nodes) c.in_err-put_attribute.ensures.unchanged ∙ c.requires.document

pub returns-in_err-put_attribute-clause-refused : goal.returns-in_err-put_attribute-clause-refused
returns-in_err-put_attribute-clause-refused c =
    wanting c.from_residual.result _ (sym c.setting_refusal.ensures ∙ c.in_default.is) c.from_residual.ensures.1

pub returns-in_err-put_attribute-clause-unchanged : goal.returns-in_err-put_attribute-clause-unchanged
returns-in_err-put_attribute-clause-unchanged c = on_err c.from_residual.result _ c.in_err-put_attribute.ensures.unchanged

pub returns-clause-within : goal.returns-clause-within
returns-clause-within c = sym c.setting_refusal.ensures ∙ c.in_default.is

pub returns-clause-document : goal.returns-clause-document
returns-clause-document c =
    ap is_document c.in_ok-put_attribute.ensures.put
    ∙ set-document c.edits_keep_documents.ensures c.args.self.now.nodes c.args.n c.args.prefix.now c.args.local.now c.args.value.now c.laws.ensures.well_formed c.requires.document
