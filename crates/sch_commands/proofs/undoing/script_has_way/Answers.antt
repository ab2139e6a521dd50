-- The document is in scope, and no edit was made yet.
use Rattle.std.proofs.Common.{◌≤◌, ℕ, [], length, subst}
use Rattle.doc_tree.specs.Walks.{order}
use Rattle.sch_commands.specs.Following.{items_of}
use Rattle.sch_commands.proofs.WayLemmas.{can-start, items-formed, ways-exist}
use Rattle.sch_commands.proofs.undoing.script_has_way.Goals as goal

pub returns : goal.returns
returns c = λ telling cap.
    ways-exist telling c.args.undos
    (record {
      makes = c.edits_make_trees.ensures;
      keeps = c.edits_keep_trees.ensures;
      fit = c.edits_stay_within.ensures;
      stay = c.edits_stay_in_scope.ensures;
      grow = c.numbers_grow.ensures;
      undone = c.commands_are_undone.ensures;
      formed = c.undoings_are_formed.ensures;
      stand = c.histories_stand.ensures;
    })
    (items_of c.args.undos c.args.script.now) c.args.tree.now.nodes []
    (can-start telling c.args.undos c.args.tree.now.nodes c.laws.ensures.well_formed c.requires.scoped c.requires.document
    (subst (λ (count : ℕ). length (order c.args.tree.now.nodes) ≤ count) cap c.requires.within))
    (items-formed c.scripts_are_well_formed.ensures c.items_are_well_formed.ensures c.args.undos c.args.script.now c.requires.short)
