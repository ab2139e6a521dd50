-- What is parsed is the number.
use Rattle.std.proofs.Common.{Ok, Err, sym, ◌∙◌}
use Rattle.std.proofs.Math.Facts.{Fits-lt-pow}
use Rattle.sch_base.proofs.NumberLemmas.{number_parsed}
use Rattle.sch_base.proofs.numbers.number_up_to.Goals as goal

pub returns-in-Ok : goal.returns-in-Ok
returns-in-Ok c =
    c.within.ensures
    ∙ sym (number_parsed {E = Unit {0}} c.args.limit c.args.text.now (Ok c.in-Ok.number) (Fits-lt-pow c.ranges.limit) (sym c.if-not-leads.ensures) c.in-Ok.ensures.value.0)

pub returns-in-Err : goal.returns-in-Err
returns-in-Err c =
    sym (number_parsed {E = Unit {0}} c.args.limit c.args.text.now (Err tt) (Fits-lt-pow c.ranges.limit) (sym c.if-not-leads.ensures) c.in-Err.ensures.value.0)
