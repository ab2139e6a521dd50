-- One command more.
use Rattle.std.proofs.Common.{◌≡◌, [], arith}
use Rattle.sch_measure.specs.Texts.{command_lines}
use Rattle.sch_measure.proofs.TextLemmas.{pieces-all, pieces-next}
use Rattle.sch_measure.proofs.texts.script_text.Goals as goal

pub loop-before-preserved : goal.loop-before-preserved
loop-before-preserved c = pieces-next (command_lines c.args.items) [] _ _ c.loop-before.before c.loop-before.invariant c.in_ok-push_command.ensures

pub returns : goal.returns
returns c =
    let end : c.loop-before.before ≡ c.args.items = omega (arith, c.loop-before-test.false, c.loop-before.auto.before-end) in
    pieces-all (command_lines c.args.items) [] _ c.loop-before.before c.args.items c.loop-before.invariant end
