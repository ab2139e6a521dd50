use Rattle.std.proofs.Common.{ap, sym, string_bytes}
use Rattle.xp_outcome.proofs.Runs.{onto_start, onto_alike, onto_done}
use Rattle.xp_meaning.proofs.Exits.{exit_same, ran_is}
use Rattle.xp_eval.proofs.Runs.{onto_goes, onto_stops}
use Rattle.sch_units.specs.Messages.{joined}
use Rattle.rule_run.proofs.Texts.{joined-part, joined-end}
use Rattle.rule_run.proofs.validator.Validator.message.Goals as goal

pub loop-part-init : goal.loop-part-init
loop-part-init g c =
    let T = c.args.self.now.caller.tree.now.nodes in
    onto_alike (ap (λ text. joined T c.args.lets.now c.args.self.now.node text c.args.parts.now) (sym c.new-text.ensures.bytes)) (onto_start _ _ _)

pub returns-in_err-append_part : goal.returns-in_err-append_part
returns-in_err-append_part g c =
    let T = c.args.self.now.caller.tree.now.nodes in
    exit_same _ _ c.from_residual.ensures.1
    (onto_stops _ _ (joined-part T c.args.lets.now c.args.self.now.node c.args.parts.now c.loop-part.part-index (string_bytes c.loop-part.text) c.part-item.result c.loop-part-test.true c.part-item.is)
    _ c.loop-part.invariant c.in_err-append_part.ensures)

pub loop-part-preserved : goal.loop-part-preserved
loop-part-preserved g c =
    let T = c.args.self.now.caller.tree.now.nodes in
    onto_goes _ _ (joined-part T c.args.lets.now c.args.self.now.node c.args.parts.now c.loop-part.part-index (string_bytes c.loop-part.text) c.part-item.result c.loop-part-test.true c.part-item.is)
    c.loop-part.invariant c.in_ok-append_part.ensures

pub returns : goal.returns
returns g c =
    let T = c.args.self.now.caller.tree.now.nodes in
    ran_is _ c.from.ensures
    (onto_done (onto_alike (joined-end T c.args.lets.now c.args.self.now.node c.args.parts.now c.loop-part.part-index (string_bytes c.loop-part.text) c.loop-part-test.false) c.loop-part.invariant))
