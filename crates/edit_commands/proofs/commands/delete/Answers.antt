-- The parent lives on, with its way up.
use Rattle.std.proofs.Common.{sym, ap, ◌∙◌}
use Rattle.doc_tree.specs.Changes.{meeting}
use Rattle.edit_commands.specs.Touched.{left_of}
use Rattle.edit_commands.proofs.DeleteLemmas.{delete-done}
use Rattle.edit_commands.proofs.commands.delete.Goals as goal

pub returns-clause-done : goal.returns-clause-done
returns-clause-done c =
    delete-done c.edits_keep_scope.ensures.deletions c.edits_leave_the_rest.ensures c.args.tree.now c.delete.new.self c.args.n c.in-Some.parent c.left_of-left.result
    c.laws.ensures.well_formed (sym c.parent.ensures ∙ c.in-Some.is)
    (c.left_of-left.ensures ∙ ap (λ ks. left_of (meeting c.args.tree.now.nodes c.args.n ks)) c.kids.ensures)
    c.in_ok-delete.ensures.within c.in_ok-delete.ensures.edited
