-- Bytes are cut at the first line end that a search finds.
use Rattle.std.proofs.Common.{arith, sym}
use Rattle.edit_script.proofs.CutLemmas.{cuts_ended, cuts_whole}
use Rattle.watch_lines.proofs.cutting.first_line.Goals as goal

pub returns-in-Some : goal.returns-in-Some
returns-in-Some c =
    let cut = c.in-Some.ensures in
    cuts_ended c.args.rest.now c.in-Some.end c.split_line.result.0.now c.split_line.result.1.now cut.0.high
    (λ k less. cut.0.before k (omega arith) less) cut.1 c.split_line.ensures.line c.split_line.ensures.rest

pub returns-in-None-2 : goal.returns-in-None-2
returns-in-None-2 c =
    cuts_whole c.args.rest.now (sym c.if-is_empty.ensures) (λ k less. c.in-None-2.ensures k (omega arith) less)
