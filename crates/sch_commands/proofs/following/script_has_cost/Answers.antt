-- The commands are well formed, and the document is one.
use Rattle.edit_script.specs.Script.{script_of}
use Rattle.sch_commands.proofs.CostLemmas.{has_cost}
use Rattle.sch_commands.proofs.following.script_has_cost.Goals as goal

pub returns : goal.returns
returns c = λ telling.
    has_cost telling c.edits_make_trees.ensures c.edits_keep_trees.ensures (script_of c.args.script.now) c.args.tree.now.nodes c.laws.ensures.well_formed c.requires.document
    (c.scripts_are_well_formed.ensures c.args.script.now c.requires.short)
