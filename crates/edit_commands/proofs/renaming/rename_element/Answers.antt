-- Nothing speaks against the name.
use Rattle.edit_commands.proofs.RenamingLemmas.{rename-done}
use Rattle.edit_commands.proofs.renaming.rename_element.Goals as goal

pub returns-clause-done : goal.returns-clause-done
returns-clause-done c =
    rename-done c.edits_keep_scope.ensures.renames c.args.tree.now c.rename.new.self c.args.n c.args.name.now c.laws.ensures.well_formed c.requires.named
    (rw (← c.split-qname.ensures.prefix) c.in_ok-rename.ensures.within)
    (rw (← c.split-qname.ensures.prefix, ← c.split-qname.ensures.local) c.in_ok-rename.ensures.edited)
