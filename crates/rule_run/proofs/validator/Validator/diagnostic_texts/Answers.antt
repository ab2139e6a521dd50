use Rattle.std.proofs.Common.{◌+◌, [], ◌∷◌, drop, refl, ap, sym}
use Rattle.xp_outcome.specs.Evaluation.{done}
use Rattle.xp_outcome.proofs.Runs.{next_item, no_item, ran_alike, onto_done, onto_late}
use Rattle.xp_meaning.proofs.Exits.{exit_same, exit_memory}
use Rattle.xp_eval.proofs.Runs.{gather_goes, gather_stops, gather_ends, gather_begins_alone}
use Rattle.sch_units.specs.Messages.{message}
use Rattle.rule_run.proofs.validator.Validator.diagnostic_texts.Goals as goal

pub loop-diagnostic-init : goal.loop-diagnostic-init
loop-diagnostic-init g c =
    let T = c.args.self.now.caller.tree.now.nodes in
    gather_begins_alone (λ _ d. message T c.args.lets.now c.args.self.now.node d.message) (λ _ _ text. text ∷ []) _ 0 c.args.diagnostics.now c.new-texts.ensures

pub returns-in_err-text : goal.returns-in_err-text
returns-in_err-text g c =
    let T = c.args.self.now.caller.tree.now.nodes in
    exit_same _ _ c.from_residual.ensures.1
    (gather_stops (λ _ d. message T c.args.lets.now c.args.self.now.node d.message) (λ _ _ text. text ∷ []) done c.loop-diagnostic.texts c.loop-diagnostic.diagnostic-index (drop c.loop-diagnostic.diagnostic-index c.args.diagnostics.now)
    c.diagnostic-item.result (drop (c.loop-diagnostic.diagnostic-index + 1) c.args.diagnostics.now) (next_item c.args.diagnostics.now c.loop-diagnostic.diagnostic-index c.diagnostic-item.result c.loop-diagnostic-test.true c.diagnostic-item.is)
    _ c.loop-diagnostic.invariant (ran_alike (ap (message T c.args.lets.now c.args.self.now.node) (sym c.as_slice.ensures)) c.in_err-text.ensures))

pub returns-in_err-push : goal.returns-in_err-push
returns-in_err-push g c =
    let T = c.args.self.now.caller.tree.now.nodes in
    exit_memory _ c.from_residual-in_err-push.ensures.1
    (onto_late (gather_goes (λ _ d. message T c.args.lets.now c.args.self.now.node d.message) (λ _ _ text. text ∷ []) done c.loop-diagnostic.texts c.loop-diagnostic.diagnostic-index (drop c.loop-diagnostic.diagnostic-index c.args.diagnostics.now)
    c.diagnostic-item.result (drop (c.loop-diagnostic.diagnostic-index + 1) c.args.diagnostics.now) (next_item c.args.diagnostics.now c.loop-diagnostic.diagnostic-index c.diagnostic-item.result c.loop-diagnostic-test.true c.diagnostic-item.is)
    refl c.loop-diagnostic.invariant (ran_alike (ap (message T c.args.lets.now c.args.self.now.node) (sym c.as_slice.ensures)) c.in_ok-text.ensures)))

pub loop-diagnostic-preserved : goal.loop-diagnostic-preserved
loop-diagnostic-preserved g c =
    let T = c.args.self.now.caller.tree.now.nodes in
    gather_goes (λ _ d. message T c.args.lets.now c.args.self.now.node d.message) (λ _ _ text. text ∷ []) done c.loop-diagnostic.texts c.loop-diagnostic.diagnostic-index (drop c.loop-diagnostic.diagnostic-index c.args.diagnostics.now)
    c.diagnostic-item.result (drop (c.loop-diagnostic.diagnostic-index + 1) c.args.diagnostics.now) (next_item c.args.diagnostics.now c.loop-diagnostic.diagnostic-index c.diagnostic-item.result c.loop-diagnostic-test.true c.diagnostic-item.is)
    c.in_ok-push.ensures.pushed c.loop-diagnostic.invariant (ran_alike (ap (message T c.args.lets.now c.args.self.now.node) (sym c.as_slice.ensures)) c.in_ok-text.ensures)

pub returns : goal.returns
returns g c =
    let T = c.args.self.now.caller.tree.now.nodes in
    onto_done (gather_ends (λ _ d. message T c.args.lets.now c.args.self.now.node d.message) (λ _ _ text. text ∷ []) done c.loop-diagnostic.texts c.loop-diagnostic.diagnostic-index (drop c.loop-diagnostic.diagnostic-index c.args.diagnostics.now)
    (no_item c.args.diagnostics.now c.loop-diagnostic.diagnostic-index c.loop-diagnostic-test.false) c.loop-diagnostic.invariant)
