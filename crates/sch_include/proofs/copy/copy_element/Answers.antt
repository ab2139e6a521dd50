-- The element, what it declares, and its attributes.
use Rattle.sch_include.proofs.CopyLemmas.{begun, begun-kind, begun-little, begun-receives, begun-room, element-copied}
use Rattle.sch_include.proofs.copy.copy_element.Goals as goal

pub copy_attributes-requires-clause-receives : goal.copy_attributes-requires-clause-receives
copy_attributes-requires-clause-receives c =
    begun-receives c.args.tree.now.nodes c.append_element.new.tree.nodes c.copy_decls.new.tree.nodes c.args.parent c.in_ok-element.element c.args.source.now.nodes c.args.n
    c.in_ok-element.ensures.grew.0 c.requires.takes c.requires.under c.in_ok-element.ensures.grew.1 c.in_ok-element.ensures.grew.2 c.in_ok-copy_decls.ensures.starts

pub copy_attributes-requires-clause-under : goal.copy_attributes-requires-clause-under
copy_attributes-requires-clause-under c =
    begun-kind c.args.tree.now.nodes c.append_element.new.tree.nodes c.copy_decls.new.tree.nodes c.args.parent c.in_ok-element.element c.args.source.now.nodes c.args.n
    c.in_ok-element.ensures.grew.0 c.requires.takes c.requires.under c.in_ok-element.ensures.grew.1 c.in_ok-element.ensures.grew.2 c.in_ok-copy_decls.ensures.starts

pub copy_attributes-requires-clause-room : goal.copy_attributes-requires-clause-room
copy_attributes-requires-clause-room c =
    begun-room c.args.tree.now.nodes c.append_element.new.tree.nodes c.copy_decls.new.tree.nodes c.args.parent c.in_ok-element.element c.args.source.now.nodes c.args.n
    c.in_ok-element.ensures.grew.0 c.requires.takes c.requires.under c.in_ok-element.ensures.grew.1 c.in_ok-element.ensures.grew.2 c.in_ok-copy_decls.ensures.starts

pub copy_attributes-requires-clause-little : goal.copy_attributes-requires-clause-little
copy_attributes-requires-clause-little c =
    begun-little c.args.tree.now.nodes c.append_element.new.tree.nodes c.copy_decls.new.tree.nodes c.args.parent c.in_ok-element.element c.args.source.now.nodes c.args.n
    c.in_ok-element.ensures.grew.0 c.requires.takes c.requires.under c.in_ok-element.ensures.grew.1 c.in_ok-element.ensures.grew.2 c.in_ok-copy_decls.ensures.starts

pub copy_attributes-requires-clause-no_kid : goal.copy_attributes-requires-clause-no_kid
copy_attributes-requires-clause-no_kid c =
    (begun c.args.tree.now.nodes c.append_element.new.tree.nodes c.copy_decls.new.tree.nodes c.args.parent c.in_ok-element.element c.args.source.now.nodes c.args.n
    c.in_ok-element.ensures.grew.0 c.requires.takes c.requires.under c.in_ok-element.ensures.grew.1 c.in_ok-element.ensures.grew.2 c.in_ok-copy_decls.ensures.starts).no_kid

pub returns-clause-copied : goal.returns-clause-copied
returns-clause-copied c =
    element-copied c.args.tree.now.nodes c.append_element.new.tree.nodes c.copy_decls.new.tree.nodes c.args.parent c.in_ok-element.element c.args.source.now.nodes c.args.n
    c.in_ok-element.ensures.grew.0 c.requires.takes c.requires.under c.in_ok-element.ensures.grew.1 c.in_ok-element.ensures.grew.2 c.in_ok-copy_decls.ensures.starts c.copy_attributes.new.tree.nodes
    (c.in_ok-copy_attributes.ensures.starts c.args.tree.now.nodes c.args.parent _ _ 1 0 (begun c.args.tree.now.nodes c.append_element.new.tree.nodes c.copy_decls.new.tree.nodes c.args.parent c.in_ok-element.element c.args.source.now.nodes c.args.n
    c.in_ok-element.ensures.grew.0 c.requires.takes c.requires.under c.in_ok-element.ensures.grew.1 c.in_ok-element.ensures.grew.2 c.in_ok-copy_decls.ensures.starts))
