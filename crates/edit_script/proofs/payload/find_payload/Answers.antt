-- Lines are read up to the first that is a dot.
use Rattle.std.proofs.Common.{refl, sym}
use Rattle.edit_script.proofs.PayloadLemmas.{reads_start, reads_dot, reads_line}
use Rattle.edit_script.proofs.payload.find_payload.Goals as goal

pub loop-line-init : goal.loop-line-init
loop-line-init c = reads_start c.args.bytes.now

pub returns-then-is_dot : goal.returns-then-is_dot
returns-then-is_dot c =
    reads_dot c.args.bytes.now c.loop-line.rest.now c.in-Some.line.now c.in-Some.after.now _ c.loop-line.count c.loop-line.invariant
    c.in-Some.ensures (sym c.if-is_dot.ensures) refl

pub loop-line-preserved : goal.loop-line-preserved
loop-line-preserved c =
    reads_line c.args.bytes.now c.loop-line.rest.now c.in-Some.line.now c.in-Some.after.now c.loop-line.count c.loop-line.invariant
    c.in-Some.ensures (sym c.if-is_dot.ensures)
