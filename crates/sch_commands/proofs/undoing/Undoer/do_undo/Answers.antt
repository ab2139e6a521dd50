-- The newest edit is taken back, or nothing is done.
use Rattle.std.proofs.Common.{◌∙◌, ap, refl}
use Rattle.doc_tree.specs.Table.{Contents}
use Rattle.sch_commands.specs.declared.undoing.Item.TheVariants.{Undo}
use Rattle.sch_commands.proofs.EndLemmas.{ok_with}
use Rattle.sch_commands.proofs.UndoLemmas.{does-not-undo, does-undone, not-undone-faults, not-undone-writing, ready-behind, ready-not-undone}
use Rattle.sch_commands.proofs.undoing.Undoer.do_undo.Goals as goal

pub returns-in-Ok-clause-does : goal.returns-in-Ok-clause-does
returns-in-Ok-clause-does g c =
    does-undone c.args.self.now c.undo.new.self c.write_next.new.self _ _ _ _ c.write_next.result c.one_edit.ensures
    c.in-Ok.ensures.plan c.in-Ok.ensures.depth c.in-Ok.ensures.undone c.in-Ok.ensures.dirty c.requires.ready.fresh
    (record {
      tree = c.write_next.ensures.tree;
      plan = c.write_next.ensures.plan;
      entries = c.write_next.ensures.entries;
      depth = c.write_next.ensures.depth;
      script_is = c.write_next.ensures.script;
      number_is = c.write_next.ensures.number;
      seen_is = c.write_next.ensures.seen;
    })
    c.write_next.ensures.wrote c.write_next.ensures.rose c.write_next.ensures.at_most

pub returns-in-Ok-clause-ready : goal.returns-in-Ok-clause-ready
returns-in-Ok-clause-ready g c =
    ok_with c.write_next.result
    (λ fresh. ready-behind c.args.self.now c.write_next.new.self Undo c.requires.ready
    (ap (λ (tree : Contents). tree.pair_cap) c.write_next.ensures.tree ∙ c.in-Ok.ensures.cap) (c.write_next.ensures.plan ∙ c.in-Ok.ensures.plan) c.write_next.ensures.script c.write_next.ensures.number fresh)
    c.write_next.ensures.fresh

pub returns-in-Ok-clause-writing : goal.returns-in-Ok-clause-writing
returns-in-Ok-clause-writing g c = c.write_next.ensures.wrote.writing

pub returns-in-Ok-clause-write_faults : goal.returns-in-Ok-clause-write_faults
returns-in-Ok-clause-write_faults g c = c.write_next.ensures.wrote.faults

pub returns-in-Err-clause-does : goal.returns-in-Err-clause-does
returns-in-Err-clause-does g c =
    does-not-undo c.args.self.now _ c.in-Err.error _ _ c.args.steps.now c.write_not_undone.result c.in-Err.ensures.refused c.write_not_undone.ensures c.in-Err.ensures.left refl refl refl

pub returns-in-Err-clause-ready : goal.returns-in-Err-clause-ready
returns-in-Err-clause-ready g c =
    ready-not-undone c.args.self.now _ c.in-Err.error _ _ c.write_not_undone.result c.requires.ready c.write_not_undone.ensures c.in-Err.ensures.left refl refl

pub returns-in-Err-clause-writing : goal.returns-in-Err-clause-writing
returns-in-Err-clause-writing g c = not-undone-writing c.args.self.now.number c.in-Err.error _ _ c.write_not_undone.result c.write_not_undone.ensures

pub returns-in-Err-clause-write_faults : goal.returns-in-Err-clause-write_faults
returns-in-Err-clause-write_faults g c = not-undone-faults c.args.self.now.number c.in-Err.error _ _ c.write_not_undone.result c.write_not_undone.ensures
