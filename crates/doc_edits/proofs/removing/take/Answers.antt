-- The counts are less by what the node counted for.
use Rattle.std.proofs.Common.{refl, sym, ap, subst, length, arith}
use Rattle.doc_table.specs.inner.Parts.{Parts}
use Rattle.doc_edits.specs.inner.Removing.{Counted}
use Rattle.doc_edits.proofs.ClearingLemmas.{Taken, nothing-taken, one-taken}
use Rattle.doc_edits.proofs.removing.take.Goals as goal

pub returns-in_err-node-clause-counted : goal.returns-in_err-node-clause-counted
returns-in_err-node-clause-counted c =
    nothing-taken c.bare.inside.names c.bare.inside.nodes.items c.take_node.new.nodes.items c.bare.inside.live c.bare.inside.text_bytes c.bare.inside.pair_cap c.args.n
    c.take_node.ensures.taken (sym c.in_err-node.ensures.was) (subst Counted (sym c.bare.view_is) c.requires.counted)

pub overflow_sub-bare : goal.overflow_sub-bare
overflow_sub-bare c =
    (one-taken c.bare.inside.names c.bare.inside.nodes.items c.take_node.new.nodes.items c.bare.inside.live c.bare.inside.text_bytes c.bare.inside.pair_cap c.args.n c.in_ok-node.node _
    c.take_node.ensures.taken (sym c.in_ok-node.ensures.was) refl (subst Counted (sym c.bare.view_is) c.requires.counted)).some

pub overflow_sub-bare-2 : goal.overflow_sub-bare-2
overflow_sub-bare-2 c =
    (one-taken c.bare.inside.names c.bare.inside.nodes.items c.take_node.new.nodes.items c.bare.inside.live c.bare.inside.text_bytes c.bare.inside.pair_cap c.args.n c.in_ok-node.node c.value.result.now
    c.take_node.ensures.taken (sym c.in_ok-node.ensures.was) (c.value.ensures c.bare.inside.names) (subst Counted (sym c.bare.view_is) c.requires.counted)).enough

outcome : (c : goal.After-bare-2-1) → Taken c.bare.inside.names c.take_node.new.nodes.items c.bare.inside.live c.bare.inside.text_bytes c.bare.inside.pair_cap (length c.value.result.now)
outcome c =
    one-taken c.bare.inside.names c.bare.inside.nodes.items c.take_node.new.nodes.items c.bare.inside.live c.bare.inside.text_bytes c.bare.inside.pair_cap c.args.n c.in_ok-node.node c.value.result.now
    c.take_node.ensures.taken (sym c.in_ok-node.ensures.was) (c.value.ensures c.bare.inside.names) (subst Counted (sym c.bare.view_is) c.requires.counted)

pub returns-clause-counted : goal.returns-clause-counted
returns-clause-counted c = (outcome c).counted

pub returns-clause-less : goal.returns-clause-less
returns-clause-less c = omega (arith, (outcome c).some, ap (λ (parts : Parts). parts.live) c.bare.view_is)
