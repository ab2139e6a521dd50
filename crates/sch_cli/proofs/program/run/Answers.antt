-- What was carried out is told and counted under its status.
use Rattle.std.proofs.Common.{◌∙◌, Bool, ap, sym, ◌&&◌}
use Rattle.sch_commands.specs.Behaviours.{asked_by}
use Rattle.sch_stops.specs.Stops.{counted_if}
use Rattle.sch_commands.specs.Carried.{line_of_end}
use Rattle.sch_cli.proofs.RunLemmas.{last_named, line_named, read_so_far, run_counts, run_ends}
use Rattle.sch_cli.proofs.program.run.Goals as goal

pub returns-clause-headline : goal.returns-clause-headline
returns-clause-headline g c =
    let was = c.carry_out.ensures.carried in
    record {
      whole = run_ends c.args.words.now (g.S.Shelf.state c.args.shelf.now).files _ was.opened _ _ _ _ c.conclude.result c.carry_out.result
          c.conclude.ensures.ends.is c.conclude.ensures.told was.noted was.whole;
      counted = run_counts c.args.words.now (g.S.Shelf.state c.args.shelf.now).files was.opened c.conclude.result c.carry_out.result c.args.steps.now c.carry_out.new.steps
          c.conclude.ensures.ends.is was.counted;
    }

pub returns-clause-line : goal.returns-clause-line
returns-clause-line g c =
    let was = c.carry_out.ensures.carried in (
      line_of_end c.carry_out.result,
      line_named _ _ c.conclude.result c.carry_out.result c.conclude.ensures.ends.is (last_named _ _ was.opened c.carry_out.result was.noted was.told),
      c.conclude.ensures.told,
    )

pub returns-clause-opened : goal.returns-clause-opened
returns-clause-opened g c = let was = c.carry_out.ensures.carried in record { opened = was.opened; noted = was.noted; which = was.which }

pub returns-clause-through : goal.returns-clause-through
returns-clause-through g c = read_so_far _ _ c.conclude.result c.carry_out.result c.conclude.ensures.ends.is c.carry_out.ensures.carried.through

pub returns-clause-held : goal.returns-clause-held
returns-clause-held g c = c.carry_out.ensures.carried.held

pub returns-clause-misses : goal.returns-clause-misses
returns-clause-misses g c = c.carry_out.ensures.carried.misses ∙ ap (λ (b : Bool). counted_if b (g.S.Shelf.state c.args.shelf.now).misses) (sym c.conclude.ensures.ends.missing)

pub returns-clause-read_faults : goal.returns-clause-read_faults
returns-clause-read_faults g c = c.carry_out.ensures.carried.faults ∙ ap (λ (b : Bool). counted_if b (g.S.Shelf.state c.args.shelf.now).faults) (sym c.conclude.ensures.ends.read_fault)

pub returns-clause-write_faults : goal.returns-clause-write_faults
returns-clause-write_faults g c = c.carry_out.ensures.carried.write_faults ∙ ap (λ (b : Bool). counted_if b (g.O.Sink.log c.args.out.now).faults) (sym c.conclude.ensures.ends.write_fault)

pub returns-clause-untouched : goal.returns-clause-untouched
returns-clause-untouched g c = λ idle. c.carry_out.ensures.carried.untouched (sym c.conclude.ensures.ends.writes ∙ idle)

pub returns-clause-unevaluated : goal.returns-clause-unevaluated
returns-clause-unevaluated g c = λ idle.
    c.carry_out.ensures.carried.unevaluated (ap (λ (b : Bool). (asked_by c.args.words.now).evaluates && b) (sym c.conclude.ensures.ends.writes) ∙ idle)

pub returns-clause-steps : goal.returns-clause-steps
returns-clause-steps g c = c.carry_out.ensures.carried.rises
