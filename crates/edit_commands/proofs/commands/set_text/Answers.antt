-- Nothing speaks against the text.
use Rattle.edit_commands.proofs.TextLemmas.{text-done}
use Rattle.edit_commands.proofs.commands.set_text.Goals as goal

pub returns-clause-done : goal.returns-clause-done
returns-clause-done c =
    text-done c.edits_keep_scope.ensures.sayings c.args.tree.now c.set_text.new.self c.args.n c.args.text.now c.is_kind-is_text.result c.laws.ensures.well_formed
    c.requires.made c.is_kind-is_text.ensures c.in_ok-set_text.ensures.within c.in_ok-set_text.ensures.edited
