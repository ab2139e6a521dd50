-- The clauses of `run` hold with its status, and with a count that began at 0.
use Rattle.std.proofs.Common.{ℕ, subst}
use Rattle.sch_cli.specs.Ran.{Ran}
use Rattle.sch_cli.proofs.process.run_counted.Goals as goal

pub returns : goal.returns
returns g c =
    let was = c.run-status.ensures in (
      c.run-status.result,
      c.exit_of.ensures,
      c.run-status.new.steps,
      subst (λ (start : ℕ). Ran c.args.words (g.S.Shelf.state c.args.shelf.now) (g.S.Shelf.state c.run-status.new.shelf) (g.O.Sink.log c.args.out.now) (g.O.Sink.log c.run-status.new.out)
          (g.E.Sink.log c.args.err.now) (g.E.Sink.log c.run-status.new.err) c.run-status.result start c.run-status.new.steps) c.start-steps.ensures
          (record {
            headline = was.headline;
            line = was.line;
            usage = was.usage;
            opened = was.opened;
            through = was.through;
            held = was.held;
            misses = was.misses;
            read_faults = was.read_faults;
            write_faults = was.write_faults;
            untouched = was.untouched;
            unevaluated = was.unevaluated;
            steps = was.steps;
          }),
    )
