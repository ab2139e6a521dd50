use Rattle.std.proofs.Common.{◌+◌, drop, refl}
use Rattle.std.specs.Option.{option_to_list}
use Rattle.xp_outcome.specs.Evaluation.{done}
use Rattle.xp_outcome.proofs.Runs.{next_item, no_item, onto_done, onto_late}
use Rattle.xp_meaning.proofs.Exits.{exit_same, exit_memory}
use Rattle.xp_eval.proofs.Runs.{gather_goes, gather_stops, gather_ends, gather_begins_alone}
use Rattle.sch_units.specs.Firing.{asserted}
use Rattle.rule_run.proofs.validator.Validator.all_asserted.Goals as goal

pub loop-i-init : goal.loop-i-init
loop-i-init g c =
    let T = c.args.self.now.caller.tree.now.nodes in
    gather_begins_alone (λ j a. asserted T c.args.lets.now c.args.self.now.node c.args.subject.now j a) (λ _ _ finding. option_to_list finding) _ 0 c.args.assertions.now c.new-findings.ensures

pub returns-in_err-finding : goal.returns-in_err-finding
returns-in_err-finding g c =
    let T = c.args.self.now.caller.tree.now.nodes in
    exit_same _ _ c.from_residual.ensures.1
    (gather_stops (λ j a. asserted T c.args.lets.now c.args.self.now.node c.args.subject.now j a) (λ _ _ finding. option_to_list finding) done c.loop-i.findings c.loop-i.i (drop c.loop-i.i c.args.assertions.now)
    c.index-assertions-i.result (drop (c.loop-i.i + 1) c.args.assertions.now) (next_item c.args.assertions.now c.loop-i.i c.index-assertions-i.result c.loop-i-test.true c.index-assertions-i.is)
    _ c.loop-i.invariant c.in_err-finding.ensures)

pub returns-in_err-push_found : goal.returns-in_err-push_found
returns-in_err-push_found g c =
    let T = c.args.self.now.caller.tree.now.nodes in
    exit_memory _ c.from_residual-in_err-push_found.ensures.1
    (onto_late (gather_goes (λ j a. asserted T c.args.lets.now c.args.self.now.node c.args.subject.now j a) (λ _ _ finding. option_to_list finding) done c.loop-i.findings c.loop-i.i (drop c.loop-i.i c.args.assertions.now)
    c.index-assertions-i.result (drop (c.loop-i.i + 1) c.args.assertions.now) (next_item c.args.assertions.now c.loop-i.i c.index-assertions-i.result c.loop-i-test.true c.index-assertions-i.is)
    refl c.loop-i.invariant c.in_ok-finding.ensures))

pub loop-i-preserved : goal.loop-i-preserved
loop-i-preserved g c =
    let T = c.args.self.now.caller.tree.now.nodes in
    gather_goes (λ j a. asserted T c.args.lets.now c.args.self.now.node c.args.subject.now j a) (λ _ _ finding. option_to_list finding) done c.loop-i.findings c.loop-i.i (drop c.loop-i.i c.args.assertions.now)
    c.index-assertions-i.result (drop (c.loop-i.i + 1) c.args.assertions.now) (next_item c.args.assertions.now c.loop-i.i c.index-assertions-i.result c.loop-i-test.true c.index-assertions-i.is)
    c.in_ok-push_found.ensures.pushed c.loop-i.invariant c.in_ok-finding.ensures

pub returns : goal.returns
returns g c =
    let T = c.args.self.now.caller.tree.now.nodes in
    onto_done (gather_ends (λ j a. asserted T c.args.lets.now c.args.self.now.node c.args.subject.now j a) (λ _ _ finding. option_to_list finding) done c.loop-i.findings c.loop-i.i (drop c.loop-i.i c.args.assertions.now)
    (no_item c.args.assertions.now c.loop-i.i c.loop-i-test.false) c.loop-i.invariant)
