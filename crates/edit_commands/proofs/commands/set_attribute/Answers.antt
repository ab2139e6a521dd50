-- Nothing speaks against the value.
use Rattle.edit_commands.proofs.AttributeLemmas.{set-new, set-old}
use Rattle.edit_commands.proofs.commands.set_attribute.Goals as goal

pub returns-in-Some-clause-done : goal.returns-in-Some-clause-done
returns-in-Some-clause-done c =
    set-old c.args.tree.now c.set_attr.new.self c.args.n c.args.name.now c.args.value.now c.laws.ensures.well_formed c.laws.ensures.ways_up
    (rw (← c.split-qname.ensures.prefix, ← c.split-qname.ensures.local) c.in_ok-set_attr.ensures.within)
    (rw (← c.split-qname.ensures.prefix, ← c.split-qname.ensures.local) c.in_ok-set_attr.ensures.edited) c.attribute_at-found.result
    (rw (← c.split-qname.ensures.prefix, ← c.split-qname.ensures.local) c.attribute_at-found.ensures)
    c.edits_keep_scope.ensures.sayings c.requires.made c.in-Some.attribute c.in-Some.is

pub returns-in-None-clause-done : goal.returns-in-None-clause-done
returns-in-None-clause-done c =
    set-new c.args.tree.now c.set_attr.new.self c.args.n c.args.name.now c.args.value.now c.laws.ensures.well_formed c.laws.ensures.ways_up
    (rw (← c.split-qname.ensures.prefix, ← c.split-qname.ensures.local) c.in_ok-set_attr.ensures.within)
    (rw (← c.split-qname.ensures.prefix, ← c.split-qname.ensures.local) c.in_ok-set_attr.ensures.edited) c.attribute_at-found.result
    (rw (← c.split-qname.ensures.prefix, ← c.split-qname.ensures.local) c.attribute_at-found.ensures)
    c.edits_keep_scope.ensures.additions c.requires.named c.requires.made c.in-None.is
