-- Both lists of the node have each number once.
use Rattle.std.proofs.Common.{subst, arith}
use Rattle.doc_table.specs.Lists.{Distinct}
use Rattle.doc_edits.specs.inner.Grafts.{kept_kids}
use Rattle.doc_edits.specs.inner.Removing.{kept_attributes}
use Rattle.doc_edits.proofs.UnlinkingLemmas.{slot-kept}
use Rattle.doc_edits.proofs.removing.unlink.Goals as goal

pub take_out-requires : goal.take_out-requires
take_out-requires c =
    subst (λ o. Distinct (kept_attributes o))
    (slot-kept c.args.nodes.now.items c.index.result c.args.parent c.index_mut-slot.result.now c.in-Some.node c.index.ensures.value (omega (arith, c.requires.parent, c.args.nodes.now.ok)) c.index_mut-slot.ensures.value c.in-Some.is)
    c.requires.attributes

pub take_out-requires-in-Some : goal.take_out-requires-in-Some
take_out-requires-in-Some c =
    subst (λ o. Distinct (kept_kids o))
    (slot-kept c.args.nodes.now.items c.index.result c.args.parent c.index_mut-slot.result.now c.in-Some.node c.index.ensures.value (omega (arith, c.requires.parent, c.args.nodes.now.ok)) c.index_mut-slot.ensures.value c.in-Some.is)
    c.requires.kids
