-- What is found behind the place.
use Rattle.std.proofs.Common.{◌≤◌, length, arith}
use Rattle.sch_compiled.proofs.MarkLemmas.{first-behind, none-behind}
use Rattle.sch_compiled.proofs.marks.next_mark.Goals as goal

pub returns-in-None : goal.returns-in-None
returns-in-None c = none-behind c.args.marks.now _ c.args.from c.behind.ensures c.in-None.ensures

pub returns-in-Some : goal.returns-in-Some
returns-in-Some c =
    let short : c.args.from ≤ length c.args.marks.now = omega arith in
    first-behind c.args.marks.now _ c.args.from c.in-Some.offset c.behind.ensures short c.in-Some.ensures.0 c.in-Some.ensures.1
