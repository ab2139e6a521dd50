-- The command is refused, or makes another document of it.
use Rattle.std.proofs.Common.{◌∙◌, ◌+◌, ap, refl}
use Rattle.doc_tree.specs.Table.{Contents}
use Rattle.sch_commands.specs.declared.undoing.Item.TheVariants.{Edit}
use Rattle.sch_commands.proofs.EndLemmas.{ok_with, on_ok}
use Rattle.sch_commands.proofs.UndoLemmas.{does-edited, does-not-edit, not-edited-faults, not-edited-writing, ready-behind, ready-still}
use Rattle.sch_commands.proofs.undoing.Undoer.do_command.Goals as goal

pub returns-in-Ok-clause-does : goal.returns-in-Ok-clause-does
returns-in-Ok-clause-does g c =
    does-edited c.args.self.now c.apply.new.self c.write_next.new.self c.args.command.now _ _ _ _ c.write_next.result c.one_edit.ensures c.requires.ready.cap
    c.in-Ok.ensures.within c.in-Ok.ensures.edited c.in-Ok.ensures.plan c.in-Ok.ensures.depth c.in-Ok.ensures.remembered (c.in-Ok.ensures.dirty c.requires.ready.fresh)
    (record {
      tree = c.write_next.ensures.tree;
      plan = c.write_next.ensures.plan;
      entries = c.write_next.ensures.entries;
      depth = c.write_next.ensures.depth;
      script_is = c.write_next.ensures.script;
      number_is = c.write_next.ensures.number;
      seen_is = c.write_next.ensures.seen;
    })
    c.write_next.ensures.wrote c.write_next.ensures.rose c.write_next.ensures.at_most

pub returns-in-Ok-clause-ready : goal.returns-in-Ok-clause-ready
returns-in-Ok-clause-ready g c =
    ok_with c.write_next.result
    (λ fresh. ready-behind c.args.self.now c.write_next.new.self (Edit c.args.command.now) c.requires.ready
    (ap (λ (tree : Contents). tree.pair_cap) c.write_next.ensures.tree ∙ c.in-Ok.ensures.cap) (c.write_next.ensures.plan ∙ c.in-Ok.ensures.plan) c.write_next.ensures.script c.write_next.ensures.number fresh)
    c.write_next.ensures.fresh

pub returns-in-Ok-clause-writing : goal.returns-in-Ok-clause-writing
returns-in-Ok-clause-writing g c = c.write_next.ensures.wrote.writing

pub returns-in-Ok-clause-write_faults : goal.returns-in-Ok-clause-write_faults
returns-in-Ok-clause-write_faults g c = c.write_next.ensures.wrote.faults

pub returns-in-Err-clause-does : goal.returns-in-Err-clause-does
returns-in-Err-clause-does g c =
    does-not-edit c.args.self.now _ c.args.command.now c.in-Err.error _ _ c.args.steps.now c.write_undone.result c.requires.ready.cap c.in-Err.ensures.refused c.write_undone.ensures
    (record { history = c.in-Err.ensures.unchanged; script_is = refl; number_is = refl; seen_is = refl })

pub returns-in-Err-clause-ready : goal.returns-in-Err-clause-ready
returns-in-Err-clause-ready g c =
    on_ok _ c.write_undone.result (ready-still c.args.self.now (record c.args.self.now { history = c.apply.new.self; number = c.args.self.now.number + 1 }) (Edit c.args.command.now) c.requires.ready c.in-Err.ensures.unchanged refl refl)

pub returns-in-Err-clause-writing : goal.returns-in-Err-clause-writing
returns-in-Err-clause-writing g c = not-edited-writing c.args.self.now.number c.in-Err.error _ _ c.write_undone.result c.write_undone.ensures

pub returns-in-Err-clause-write_faults : goal.returns-in-Err-clause-write_faults
returns-in-Err-clause-write_faults g c = not-edited-faults c.args.self.now.number c.in-Err.error _ _ c.write_undone.result c.write_undone.ensures
