-- No reason speaks against the next command, and it was done where those before it were.
use Rattle.std.proofs.Common.{◌≡◌, List, ◌++◌, ◌∷◌, take, drop, suc, None, Some, subst, sym}
use Rattle.std.proofs.lemmas.List.Elements.{All-get_or}
use Rattle.edit_script.specs.declared.command.Command.{Command}
use Rattle.edit_script.specs.WellFormed.{WellFormedCommand}
use Rattle.edit_commands.specs.Commands.{RefusesCommand, command_refusal}
use Rattle.edit_commands.specs.declared.refusal.ApplyError.{ApplyError}
use Rattle.edit_commands.specs.declared.refusal.ApplyError.TheVariants.{Memory}
use Rattle.edit_iso_laws.specs.CommandsMove.{DoneInTurn}
use Rattle.edit_session.specs.Standing.{Standing}
use Rattle.sch_undo.specs.inner.Doing.{Did, NamesFirst}
use Rattle.sch_undo.proofs.NameLemmas.{later-keeps}
use Rattle.sch_undo.proofs.TurnLemmas.{cut-at, did-more, did-none, next-free, one-more}
use Rattle.sch_undo.proofs.history.do_all.Goals as goal

pub loop-command-init : goal.loop-command-init
loop-command-init c = did-none c.args.session.now

pub apply-requires : goal.apply-requires
apply-requires c = record {
  formed =
      subst WellFormedCommand (sym c.command-item.is)
      (All-get_or WellFormedCommand c.args.commands.now c.loop-command.command-index c.command-item.result c.loop-command-test.true c.requires.formed);
}

pub unreachable-requires : goal.unreachable-requires
unreachable-requires c =
    let i = c.loop-command.command-index in
    let commands : List Command = c.args.commands.now in
    let command : Command = c.command-item.result in
    let cut : commands ≡ take i commands ++ command ∷ drop (suc i) commands =
    cut-at commands i command c.loop-command-test.true c.command-item.is in
    let all : DoneInTurn c.args.session.now.tree (take i commands ++ command ∷ drop (suc i) commands) c.requires.free.0 =
    subst (λ (cs : List Command). DoneInTurn c.args.session.now.tree cs c.requires.free.0) cut c.requires.free.1 in
    let free : command_refusal c.loop-command.session.tree command ≡ None =
    next-free c.one_edit.ensures c.args.session.now.tree c.loop-command.session.tree c.requires.free.0 (take i commands) command (drop (suc i) commands) all
    c.loop-command.invariant.done in
    let refused : command_refusal c.loop-command.session.tree command ≡ Some c.in-Err-Refused.field-0-0 =
    subst (λ (error : ApplyError). RefusesCommand c.loop-command.session.tree command error) c.in-Err-Refused.field-0-is c.in-Err-Refused.ensures.refused in
    cc (free, refused)

pub loop-command-preserved : goal.loop-command-preserved
loop-command-preserved c =
    let i = c.loop-command.command-index in
    let commands : List Command = c.args.commands.now in
    let command : Command = c.command-item.result in
    subst (λ (cs : List Command). Did c.args.session.now cs c.apply.new.self) (sym (one-more commands i command c.loop-command-test.true c.command-item.is))
    (did-more c.args.session.now c.loop-command.session c.apply.new.self (take i commands) command c.loop-command.invariant
    (later-keeps (take i commands) command (drop (suc i) commands)
    (subst NamesFirst (cut-at commands i command c.loop-command-test.true c.command-item.is) c.requires.names)) c.in-Ok.ensures.within
    c.in-Ok.ensures.edited c.in-Ok.ensures.edit c.in-Ok.ensures.marked c.in-Ok.ensures.plan c.in-Ok.ensures.cap c.in-Ok.ensures.scope)

pub returns-in-Err-Memory-clause-stopped : goal.returns-in-Err-Memory-clause-stopped
returns-in-Err-Memory-clause-stopped c =
    let i = c.loop-command.command-index in
    let commands : List Command = c.args.commands.now in
    let command : Command = c.command-item.result in
    let same : c.apply.new.self ≡ c.loop-command.session = c.in-Err-Memory.ensures.unchanged in
    record {
      front = take i commands;
      command = command;
      back = drop (suc i) commands;
      is = cut-at commands i command c.loop-command-test.true c.command-item.is;
      did = subst (λ (s : Standing). Did c.args.session.now (take i commands) s) (sym same) c.loop-command.invariant;
      wanted =
          subst (λ (s : Standing). RefusesCommand s.tree command Memory) (sym same)
          (subst (λ (error : ApplyError). RefusesCommand c.loop-command.session.tree command error) c.in-Err-Memory.field-0-is c.in-Err-Memory.ensures.refused);
    }
