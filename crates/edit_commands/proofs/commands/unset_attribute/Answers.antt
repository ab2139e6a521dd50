-- The attribute is there.
use Rattle.edit_commands.proofs.AttributeLemmas.{unset-done}
use Rattle.edit_commands.proofs.commands.unset_attribute.Goals as goal

pub returns-clause-done : goal.returns-clause-done
returns-clause-done c =
    unset-done c.edits_keep_scope.ensures.deletions c.args.tree.now c.unset_attr.new.self c.args.n c.args.name.now c.laws.ensures.well_formed
    (rw (← c.split-qname.ensures.prefix, ← c.split-qname.ensures.local) c.in_ok-unset_attr.ensures.within)
    (rw (← c.split-qname.ensures.prefix, ← c.split-qname.ensures.local) c.in_ok-unset_attr.ensures.edited)
