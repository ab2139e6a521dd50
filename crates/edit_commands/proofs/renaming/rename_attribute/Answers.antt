-- The attribute is there, and nothing speaks against its new name.
use Rattle.edit_commands.proofs.RenamingLemmas.{is-there, rename-attribute-done}
use Rattle.edit_commands.proofs.renaming.rename_attribute.Goals as goal

pub unreachable-requires : goal.unreachable-requires
unreachable-requires c =
    is-there c.args.tree.now c.rename_attr.new.self c.args.n c.args.old.now c.args.name.now
    (rw (← c.split-former.ensures.prefix, ← c.split-former.ensures.local, ← c.split-qname.ensures.prefix, ← c.split-qname.ensures.local) c.in_ok-rename_attr.ensures.within)
    c.attribute_at-found.result (rw (← c.split-former.ensures.prefix, ← c.split-former.ensures.local) c.attribute_at-found.ensures) c.in-None.is

pub returns-clause-done : goal.returns-clause-done
returns-clause-done c =
    rename-attribute-done c.args.tree.now c.rename_attr.new.self c.args.n c.args.old.now c.args.name.now
    (rw (← c.split-former.ensures.prefix, ← c.split-former.ensures.local, ← c.split-qname.ensures.prefix, ← c.split-qname.ensures.local) c.in_ok-rename_attr.ensures.within)
    c.attribute_at-found.result (rw (← c.split-former.ensures.prefix, ← c.split-former.ensures.local) c.attribute_at-found.ensures)
    c.edits_keep_scope.ensures.renames c.laws.ensures.well_formed c.requires.named
    (rw (← c.split-former.ensures.prefix, ← c.split-former.ensures.local, ← c.split-qname.ensures.prefix, ← c.split-qname.ensures.local) c.in_ok-rename_attr.ensures.edited)
    c.in-Some.attribute c.in-Some.is
