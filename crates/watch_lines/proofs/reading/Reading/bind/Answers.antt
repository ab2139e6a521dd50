-- The prefix is bound.
use Rattle.std.proofs.Common.{refl, sym}
use Rattle.watch_lines.specs.Watches.{binds}
use Rattle.watch_lines.proofs.LineLemmas.{is_bound}
use Rattle.watch_lines.proofs.reading.Reading.bind.Goals as goal

pub returns-clause-says : goal.returns-clause-says
returns-clause-says c = record {
  said = binds (record { prefix = c.in-Some.prefix.now; uri = c.in-Some.uri.now });
  judged = is_bound c.args.self.now.env.prefixes c.args.text.now c.in-Some.prefix.now c.in-Some.uri.now c.in-Some.ensures
      (sym c.if-not-may_bind.ensures);
  scope = c.in_ok-add_prefix.ensures.added;
  list = refl;
}
