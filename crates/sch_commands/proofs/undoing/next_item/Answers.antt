-- The line `undo` is next, or a command, or the script is at its end or its fault.
use Rattle.std.proofs.Common.{◌≡◌, ◌∙◌, ap}
use Rattle.std.proofs.lemmas.Result.{err_from_is_err_and}
use Rattle.edit_script.specs.Faults.{IfFault}
use Rattle.edit_script.specs.Script.{LinesLeft, Takes, nothing, script_left}
use Rattle.edit_script.specs.Undos.{breaks, items_left}
use Rattle.edit_script.specs.declared.command.Command.{Command}
use Rattle.sch_commands.proofs.ItemLemmas.{behind-unfaulted, err-as, item-command, item-end, item-fault, none-holds, some-holds}
use Rattle.sch_commands.proofs.undoing.next_item.Goals as goal

pub returns-then-take_undo-clause-item : goal.returns-then-take_undo-clause-item
returns-then-take_undo-clause-item c = c.items_in_turn.ensures.undo c.args.script.now c.take_undo.new.self (c.take_undo.ensures.taken c.if-take_undo.true)

pub returns-then-take_undo-clause-unfaulted : goal.returns-then-take_undo-clause-unfaulted
returns-then-take_undo-clause-unfaulted c =
    behind-unfaulted c.args.script.now c.take_undo.new.self c.requires.unfaulted (c.take_undo.ensures.taken c.if-take_undo.true)

pub returns-in-Some-clause-item : goal.returns-in-Some-clause-item
returns-in-Some-clause-item c =
    (item-command c.items_in_turn.ensures c.args.script.now c.take_undo.new.self c.next.new.self c.in-Some.command (c.take_undo.ensures.unchanged c.if-take_undo.false)
    c.requires.unfaulted (c.take_undo.ensures.none c.if-take_undo.false)
    (some-holds (λ (command : Command). Takes command c.take_undo.new.self c.next.new.self) c.in_ok-command.field-0 c.in-Some.command c.in-Some.is c.in_ok-command.ensures.taken)).0

pub returns-in-Some-clause-unfaulted : goal.returns-in-Some-clause-unfaulted
returns-in-Some-clause-unfaulted c =
    (item-command c.items_in_turn.ensures c.args.script.now c.take_undo.new.self c.next.new.self c.in-Some.command (c.take_undo.ensures.unchanged c.if-take_undo.false)
    c.requires.unfaulted (c.take_undo.ensures.none c.if-take_undo.false)
    (some-holds (λ (command : Command). Takes command c.take_undo.new.self c.next.new.self) c.in_ok-command.field-0 c.in-Some.command c.in-Some.is c.in_ok-command.ensures.taken)).1

pub returns-in-None-clause-end : goal.returns-in-None-clause-end
returns-in-None-clause-end c =
    item-end c.items_in_turn.ensures c.args.script.now c.take_undo.new.self (c.take_undo.ensures.unchanged c.if-take_undo.false)
    (none-holds ((script_left c.take_undo.new.self ≡ nothing) × (c.next.new.self ≡ c.take_undo.new.self)) c.in_ok-command.field-0 c.in-None.is c.in_ok-command.ensures.end).0

pub returns-in-None-clause-unfaulted : goal.returns-in-None-clause-unfaulted
returns-in-None-clause-unfaulted c =
    ap (λ (left : LinesLeft). left.faulted)
    ((none-holds ((script_left c.take_undo.new.self ≡ nothing) × (c.next.new.self ≡ c.take_undo.new.self)) c.in_ok-command.field-0 c.in-None.is c.in_ok-command.ensures.end).1
    ∙ c.take_undo.ensures.unchanged c.if-take_undo.false) ∙ c.requires.unfaulted

pub returns-in_err-command-clause-fault : goal.returns-in_err-command-clause-fault
returns-in_err-command-clause-fault c =
    let error = err_from_is_err_and c.from_residual.result c.from_residual.ensures.1 in
    err-as (IfFault (λ found. items_left c.args.script.now ≡ breaks found)) c.from_residual.result error.0 c.in_err-command.field-0.0 error.1 error.2
    (item-fault c.items_in_turn.ensures c.args.script.now c.take_undo.new.self (c.take_undo.ensures.unchanged c.if-take_undo.false) c.requires.unfaulted
    (c.take_undo.ensures.none c.if-take_undo.false) c.in_err-command.field-0.0 c.in_err-command.ensures.fault)
