-- No node changes its kind.
use Rattle.std.proofs.Common.{sym, ap, ◌∙◌}
use Rattle.doc_table.specs.Kinds.{is_document}
use Rattle.doc_table.specs.Table.{Contents}
use Rattle.doc_table.specs.inner.Parts.{contents, table_of}
use Rattle.doc_edits.specs.Changes.{said}
use Rattle.std.proofs.lemmas.Result.{IfOk-from_err}
use Rattle.doc_names.proofs.NameLemmas.{on_err}
use Rattle.doc_tree.proofs.Outcomes.{wanting}
use Rattle.doc_tree.proofs.tree.Tree.set_text.Goals as goal

pub returns-clause-document : goal.returns-clause-document
returns-clause-document c =
    ap is_document c.in_ok-say.ensures.said
    ∙ c.edits_keep_documents.ensures.saying (table_of c.self.inside.bare) c.args.n c.args.text.now (ap (λ t. is_document t.nodes) c.self.view_is ∙ c.requires.document)

-- where something speaks against the text

pub returns-in-Some-clause-document : goal.returns-in-Some-clause-document
returns-in-Some-clause-document c = c.requires.document

pub returns-in-Some-clause-refused : goal.returns-in-Some-clause-refused
returns-in-Some-clause-refused c = sym c.text_refusal.ensures ∙ c.in-Some.is

-- where the text finds no memory

pub returns-in_err-say-clause-within : goal.returns-in_err-say-clause-within
returns-in_err-say-clause-within c = IfOk-from_err c.from_residual.result _ c.from_residual.ensures.0

pub returns-in_err-say-clause-edited : goal.returns-in_err-say-clause-edited
returns-in_err-say-clause-edited c = IfOk-from_err c.from_residual.result _ c.from_residual.ensures.0

pub returns-in_err-say-clause-document : goal.returns-in_err-say-clause-document
returns-in_err-say-clause-document c = ap (λ parts. is_document (table_of parts)) c.in_err-say.ensures.unchanged ∙ (ap (λ (t : Contents). is_document t.nodes) c.self.view_is ∙ c.requires.document)

pub returns-in_err-say-clause-names : goal.returns-in_err-say-clause-names
returns-in_err-say-clause-names c = c.say.ensures.names ∙ ap (λ (t : Contents). t.names) c.self.view_is

pub returns-in_err-say-clause-cap : goal.returns-in_err-say-clause-cap
returns-in_err-say-clause-cap c = c.say.ensures.cap ∙ ap (λ (t : Contents). t.pair_cap) c.self.view_is

pub returns-in_err-say-clause-refused : goal.returns-in_err-say-clause-refused
returns-in_err-say-clause-refused c = wanting c.from_residual.result _ (sym c.text_refusal.ensures ∙ c.in_default.is) c.from_residual.ensures.1

pub returns-in_err-say-clause-unchanged : goal.returns-in_err-say-clause-unchanged
returns-in_err-say-clause-unchanged c = on_err c.from_residual.result _ (ap contents c.in_err-say.ensures.unchanged ∙ c.self.view_is)

-- where it is set

pub returns-clause-within : goal.returns-clause-within
returns-clause-within c = sym c.text_refusal.ensures ∙ c.in_default.is

pub returns-clause-edited : goal.returns-clause-edited
returns-clause-edited c = c.in_ok-say.ensures.said ∙ ap (λ (t : Contents). said t.nodes c.args.n c.args.text.now) c.self.view_is

pub returns-clause-names : goal.returns-clause-names
returns-clause-names c = c.say.ensures.names ∙ ap (λ (t : Contents). t.names) c.self.view_is

pub returns-clause-cap : goal.returns-clause-cap
returns-clause-cap c = c.say.ensures.cap ∙ ap (λ (t : Contents). t.pair_cap) c.self.view_is
