-- The commands and undos are done one after another, up to the end of the script or what stops the run.
use Rattle.std.proofs.Common.{◌∙◌, Err, ap, arith, refl}
use Rattle.std.proofs.lemmas.Result.{err_from_is_err_and}
use Rattle.edit_script.specs.Undos.{items_left}
use Rattle.sch_commands.specs.inner.Undoing.{place_at}
use Rattle.sch_commands.proofs.ItemLemmas.{next-is, no-next}
use Rattle.sch_commands.proofs.UndoLemmas.{item-moved, item-stops, not-moved, ready-next, rest-ends, rest-stops}
use Rattle.sch_commands.proofs.undoing.Undoer.follow_rest.Goals as goal

pub loop-item-init : goal.loop-item-init
loop-item-init g c = record {
  ready = c.requires.ready;
  come = λ backs keeps goes. not-moved c.args.self.now _ _ backs keeps goes;
  faults = refl;
  steps = omega arith;
}

pub returns-in_err-item-clause-rests : goal.returns-in_err-item-clause-rests
returns-in_err-item-clause-rests g c = λ backs keeps goes.
    let error = err_from_is_err_and c.from_residual.result c.from_residual.ensures.1 in
    rest-stops (place_at c.args.self.now backs) c.loop-item.self _ _ c.args.steps.now c.loop-item.steps (c.loop-item.invariant.come backs keeps goes)
    c.in_err-item.field-0.0 error.0 c.from_residual.result error.1 error.2 c.in_err-item.ensures.fault

pub returns-in_err-done-clause-rests : goal.returns-in_err-done-clause-rests
returns-in_err-done-clause-rests g c = λ backs keeps goes.
    let error = err_from_is_err_and c.from_residual-in_err-done.result c.from_residual-in_err-done.ensures.1 in
    item-stops (place_at c.args.self.now backs) c.loop-item.self c.follow_item-done.new.self c.next_item.new.script c.in-Some.item (g.O.Sink.log c.args.out.now) (g.O.Sink.log c.loop-item.out) (g.O.Sink.log c.follow_item-done.new.out) c.args.steps.now c.loop-item.steps c.follow_item-done.new.steps
    (next-is c.in_ok-item.field-0 c.in-Some.item (items_left c.loop-item.self.script) (items_left c.next_item.new.script) c.in-Some.is c.in_ok-item.ensures.item)
    (c.loop-item.invariant.come backs keeps goes) c.in_err-done.field-0.0 c.from_residual-in_err-done.result (error.1 ∙ ap Err error.2) c.in_err-done.ensures.does

pub loop-item-preserved : goal.loop-item-preserved
loop-item-preserved g c = record {
  ready = c.in_ok-done.ensures.ready;
  come = λ backs keeps goes.
      item-moved (place_at c.args.self.now backs) c.loop-item.self c.follow_item-done.new.self c.next_item.new.script c.in-Some.item (g.O.Sink.log c.args.out.now) (g.O.Sink.log c.loop-item.out) (g.O.Sink.log c.follow_item-done.new.out) c.args.steps.now c.loop-item.steps c.follow_item-done.new.steps
      (next-is c.in_ok-item.field-0 c.in-Some.item (items_left c.loop-item.self.script) (items_left c.next_item.new.script) c.in-Some.is c.in_ok-item.ensures.item)
      (c.loop-item.invariant.come backs keeps goes) c.in_ok-done.ensures.does;
  faults = c.in_ok-done.ensures.write_faults ∙ c.loop-item.invariant.faults;
  steps = omega (arith, c.loop-item.invariant.steps, c.in_ok-done.ensures.steps);
}

pub follow_item-done-requires-clause-ready : goal.follow_item-done-requires-clause-ready
follow_item-done-requires-clause-ready g c =
    ready-next c.loop-item.self c.next_item.new.script c.in-Some.item c.loop-item.invariant.ready
    (next-is c.in_ok-item.field-0 c.in-Some.item (items_left c.loop-item.self.script) (items_left c.next_item.new.script) c.in-Some.is c.in_ok-item.ensures.item)
    c.in_ok-item.ensures.unfaulted

pub returns-clause-rests : goal.returns-clause-rests
returns-clause-rests g c = λ backs keeps goes.
    rest-ends (place_at c.args.self.now backs) c.loop-item.self _ _ c.args.steps.now c.loop-item.steps (c.loop-item.invariant.come backs keeps goes)
    (no-next c.in_ok-item.field-0 (items_left c.loop-item.self.script) c.in_default.not-Some c.in_ok-item.ensures.end)
