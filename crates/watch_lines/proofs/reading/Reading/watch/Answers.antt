-- The expression is added.
use Rattle.std.proofs.Common.{◌≤◌, ◌<◌, length, arith, refl}
use Rattle.sch_base.specs.declared.limits.TheConstants.{MAX_EXPRESSION_BYTES}
use Rattle.watch_lines.specs.declared.reading.TheConstants.{MAX_WATCHES}
use Rattle.watch_lines.specs.Watches.{watches}
use Rattle.watch_lines.proofs.LineLemmas.{watch_said}
use Rattle.watch_lines.proofs.reading.Reading.watch.Goals as goal

pub returns-clause-says : goal.returns-clause-says
returns-clause-says c =
    let short : length c.args.text.now ≤ MAX_EXPRESSION_BYTES = omega (arith, c.if-text-gt-MAX_EXPRESSION_BYTES.false) in
    let few : length c.args.self.now.list < MAX_WATCHES = omega (arith, c.if-len-ge-MAX_WATCHES.false, c.len.ensures) in
    record {
      said = watches c.in_ok-expr.expr;
      judged = watch_said c.args.self.now.env (length c.args.self.now.list) c.args.text.now c.in_ok-expr.expr short few c.in_ok-expr.ensures.typed;
      scope = refl;
      list = c.in_ok-add.ensures.added;
    }
