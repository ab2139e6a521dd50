-- Nothing speaks against the piece, so that it may come, and the document stays one.
use Rattle.std.proofs.Common.{◌-◌, [], length, refl, ap, ap₂, sym, ◌∙◌, subst, append-nil}
use Rattle.std.specs.Option.{option_or}
use Rattle.doc_table.specs.Kinds.{is_document}
use Rattle.doc_table.specs.Table.{Contents}
use Rattle.doc_table.specs.inner.Parts.{contents, table_of}
use Rattle.doc_table.specs.Laws.{WellFormed}
use Rattle.doc_table.specs.inner.Sound.{Formed}
use Rattle.doc_table.proofs.TreeLaws.{ordered, well-formed}
use Rattle.doc_edits.specs.Changes.{inserted}
use Rattle.doc_edits.specs.Fitting.{MayTake}
use Rattle.std.proofs.lemmas.Result.{IfOk-from_err}
use Rattle.doc_names.proofs.NameLemmas.{on_err}
use Rattle.doc_tree.specs.Edited.{NamesGrow}
use Rattle.doc_tree.specs.Refusals.{place_refusal}
use Rattle.doc_tree.proofs.Outcomes.{wanting}
use Rattle.doc_tree.proofs.InsertLemmas.{document-kept, may-take, nothing-against}
use Rattle.doc_tree.proofs.tree.Tree.insert.Goals as goal

pub insert-requires-clause-may : goal.insert-requires-clause-may
insert-requires-clause-may c =
    subst (λ (t : Contents). MayTake (table_of c.self.inside.bare) c.args.parent (c.args.at - 1) t.nodes) (sym c.piece.view_is)
    (subst (λ (t : Contents). MayTake t.nodes c.args.parent (c.args.at - 1) c.args.piece.now.nodes) (sym c.self.view_is)
    (may-take c.args.self.now c.args.parent c.args.at c.args.piece.now.nodes
    (nothing-against c.args.self.now c.args.parent c.args.at c.args.piece.now.nodes c.top_kind.result c.room_refusal.result c.top_kind.ensures.kind c.in_default.ensures.good
    c.room_refusal.ensures c.in_default-room_refusal.is)
    (ordered c.args.piece.now.nodes (subst (λ (t : Contents). Formed t.nodes) c.piece.view_is c.piece.invariant.0.formed)) c.requires.one))

pub returns-clause-document : goal.returns-clause-document
returns-clause-document c =
    ap is_document c.in_ok-number.ensures.inserted
    ∙ (ap (λ (t : Contents). is_document (inserted (table_of c.self.inside.bare) c.args.parent (c.args.at - 1) t.nodes)) c.piece.view_is
    ∙ (ap (λ (t : Contents). is_document (inserted t.nodes c.args.parent (c.args.at - 1) c.args.piece.now.nodes)) c.self.view_is
    ∙ document-kept c.args.self.now c.args.parent c.args.at c.args.piece.now.nodes
    (nothing-against c.args.self.now c.args.parent c.args.at c.args.piece.now.nodes c.top_kind.result c.room_refusal.result c.top_kind.ensures.kind c.in_default.ensures.good
    c.room_refusal.ensures c.in_default-room_refusal.is)
    c.edits_keep_documents.ensures
    (subst (λ (t : Contents). WellFormed t.nodes) c.self.view_is (well-formed (table_of c.self.inside.bare) c.self.invariant.0.formed))
    (well-formed c.args.piece.now.nodes (subst (λ (t : Contents). Formed t.nodes) c.piece.view_is c.piece.invariant.0.formed)) c.requires.one c.requires.document))

-- where something speaks against the place

pub returns-in-Err-clause-document : goal.returns-in-Err-clause-document
returns-in-Err-clause-document c = c.requires.document

pub returns-in-Err-clause-names : goal.returns-in-Err-clause-names
returns-in-Err-clause-names c = ([], sym (append-nil c.args.self.now.names))

pub returns-in-Err-clause-refused : goal.returns-in-Err-clause-refused
returns-in-Err-clause-refused c = ap₂ option_or (ap (place_refusal c.args.self.now.nodes c.args.parent c.args.at) c.top_kind.ensures.kind ∙ c.in-Err.ensures.refused) refl

-- where there is no room

pub returns-in-Some-clause-document : goal.returns-in-Some-clause-document
returns-in-Some-clause-document c = c.requires.document

pub returns-in-Some-clause-names : goal.returns-in-Some-clause-names
returns-in-Some-clause-names c = ([], sym (append-nil c.args.self.now.names))

pub returns-in-Some-clause-refused : goal.returns-in-Some-clause-refused
returns-in-Some-clause-refused c =
    ap₂ option_or (ap (place_refusal c.args.self.now.nodes c.args.parent c.args.at) c.top_kind.ensures.kind ∙ c.in_default.ensures.good) (sym c.room_refusal.ensures ∙ c.in-Some.is)

-- where the copy finds no memory

pub returns-in_err-number-clause-within : goal.returns-in_err-number-clause-within
returns-in_err-number-clause-within c = IfOk-from_err c.from_residual.result _ c.from_residual.ensures.0

pub returns-in_err-number-clause-edited : goal.returns-in_err-number-clause-edited
returns-in_err-number-clause-edited c = IfOk-from_err c.from_residual.result _ c.from_residual.ensures.0

pub returns-in_err-number-clause-number : goal.returns-in_err-number-clause-number
returns-in_err-number-clause-number c = IfOk-from_err c.from_residual.result _ c.from_residual.ensures.0

pub returns-in_err-number-clause-document : goal.returns-in_err-number-clause-document
returns-in_err-number-clause-document c = ap (λ parts. is_document (table_of parts)) c.in_err-number.ensures.unchanged ∙ (ap (λ (t : Contents). is_document t.nodes) c.self.view_is ∙ c.requires.document)

pub returns-in_err-number-clause-names : goal.returns-in_err-number-clause-names
returns-in_err-number-clause-names c = subst (λ (t : Contents). NamesGrow t.names c.insert.new.bare.names) c.self.view_is c.insert.ensures.names

pub returns-in_err-number-clause-cap : goal.returns-in_err-number-clause-cap
returns-in_err-number-clause-cap c = c.insert.ensures.cap ∙ ap (λ (t : Contents). t.pair_cap) c.self.view_is

pub returns-in_err-number-clause-refused : goal.returns-in_err-number-clause-refused
returns-in_err-number-clause-refused c =
    wanting c.from_residual.result _
    (nothing-against c.args.self.now c.args.parent c.args.at c.args.piece.now.nodes c.top_kind.result c.room_refusal.result c.top_kind.ensures.kind c.in_default.ensures.good
    c.room_refusal.ensures c.in_default-room_refusal.is) c.from_residual.ensures.1

pub returns-in_err-number-clause-unchanged : goal.returns-in_err-number-clause-unchanged
returns-in_err-number-clause-unchanged c = on_err c.from_residual.result _ (ap contents c.in_err-number.ensures.unchanged ∙ c.self.view_is)

-- where the piece is there

pub returns-clause-within : goal.returns-clause-within
returns-clause-within c =
    nothing-against c.args.self.now c.args.parent c.args.at c.args.piece.now.nodes c.top_kind.result c.room_refusal.result c.top_kind.ensures.kind c.in_default.ensures.good
    c.room_refusal.ensures c.in_default-room_refusal.is

pub returns-clause-edited : goal.returns-clause-edited
returns-clause-edited c =
    c.in_ok-number.ensures.inserted
    ∙ (ap (λ (t : Contents). inserted (table_of c.self.inside.bare) c.args.parent (c.args.at - 1) t.nodes) c.piece.view_is
    ∙ ap (λ (t : Contents). inserted t.nodes c.args.parent (c.args.at - 1) c.args.piece.now.nodes) c.self.view_is)

pub returns-clause-number : goal.returns-clause-number
returns-clause-number c = c.in_ok-number.ensures.number ∙ ap (λ (t : Contents). length t.nodes) c.self.view_is

pub returns-clause-names : goal.returns-clause-names
returns-clause-names c = subst (λ (t : Contents). NamesGrow t.names c.insert.new.bare.names) c.self.view_is c.insert.ensures.names

pub returns-clause-cap : goal.returns-clause-cap
returns-clause-cap c = c.insert.ensures.cap ∙ ap (λ (t : Contents). t.pair_cap) c.self.view_is
