-- An empty line is skipped.
use Rattle.std.proofs.Common.{sym}
use Rattle.edit_script.proofs.CutLemmas.{skips_line}
use Rattle.edit_script.proofs.lines.next_line.Goals as goal

pub loop-line-preserved : goal.loop-line-preserved
loop-line-preserved c =
    skips_line c.args.from c.args.bytes.now c.loop-line.number c.loop-line.rest.now c.in-Some.line.now c.in-Some.after.now c.loop-line.invariant
    c.in-Some.ensures (sym c.if-not-is_empty.ensures)
