-- The tree under way is that of the watch, and the watches that read what the command touched are stale.
use Rattle.std.proofs.Common.{◌≡◌, ◌∙◌, ap, subst, sym}
use Rattle.edit_commands.specs.Touched.{holds_cell, touched_by}
use Rattle.name_scopes.specs.Scoping.{InScope}
use Rattle.xp_watch.specs.Kept.{IsFresh, Marks, stale_watches}
use Rattle.xp_watch.specs.Watched.{dirty_watches}
use Rattle.xp_watch.specs.Watching.{Watching}
use Rattle.xp_watch.specs.inner.Held.{held_by}
use Rattle.xp_watch.proofs.WatchLemmas.{edit_holds, marks_same}
use Rattle.xp_watch.proofs.watch.Watch.apply.Goals as goal

pub invariant_of-self : goal.invariant_of-self
invariant_of-self c =
    let before = c.self.inside in
    let touched = touched_by before.tree.nodes c.args.command.now in
    let marks = marks_same c.names_are_touched_alike.ensures.held before.tree.nodes c.apply_to.new.tree.nodes touched
    (holds_cell c.apply_to.new.tree.nodes c.in-Ok.touched) (held_by before.kept) (held_by c.mark.new.self) c.laws.ensures.well_formed
    c.in-Ok.ensures.edit
    c.in-Ok.ensures.touched c.mark.ensures.marks in
    record {
      document = c.in-Ok.ensures.document;
      cap = c.in-Ok.ensures.cap ∙ c.self.invariant.cap;
      keeps = edit_holds c.edits_keep.ensures before.tree.nodes c.apply_to.new.tree.nodes touched before.list (held_by before.kept)
          (held_by c.mark.new.self) c.laws.ensures.well_formed c.in-Ok.ensures.edit
          (c.cells_read_are_live.ensures before.tree.nodes c.laws.ensures.well_formed) (c.cells_read_are_live.ensures c.apply_to.new.tree.nodes c.laws-in-Ok.ensures.well_formed)
          c.mark.ensures.reads marks c.self.invariant.keeps;
    }

pub returns-in-Ok-clause-marked : goal.returns-in-Ok-clause-marked
returns-in-Ok-clause-marked c =
    let before = c.self.inside in
    subst (λ (s : Watching). Marks s.tree.nodes (touched_by s.tree.nodes c.args.command.now) s.kept (held_by c.mark.new.self)) c.self.view_is
    (marks_same c.names_are_touched_alike.ensures.held before.tree.nodes c.apply_to.new.tree.nodes (touched_by before.tree.nodes c.args.command.now)
    (holds_cell c.apply_to.new.tree.nodes c.in-Ok.touched) (held_by before.kept) (held_by c.mark.new.self) c.laws.ensures.well_formed
    c.in-Ok.ensures.edit
    c.in-Ok.ensures.touched c.mark.ensures.marks)

pub returns-in-Ok-clause-dirty : goal.returns-in-Ok-clause-dirty
returns-in-Ok-clause-dirty c =
    let before = c.self.inside in
    let touched = touched_by before.tree.nodes c.args.command.now in
    let marks = marks_same c.names_are_touched_alike.ensures.held before.tree.nodes c.apply_to.new.tree.nodes touched
    (holds_cell c.apply_to.new.tree.nodes c.in-Ok.touched) (held_by before.kept) (held_by c.mark.new.self) c.laws.ensures.well_formed
    c.in-Ok.ensures.edit
    c.in-Ok.ensures.touched c.mark.ensures.marks in
    subst (λ (s : Watching). IsFresh s.tree.nodes s.expressions s.kept →
    stale_watches (held_by c.mark.new.self) s.expressions ≡ dirty_watches s.tree.nodes (touched_by s.tree.nodes c.args.command.now) s.expressions)
    c.self.view_is
    (λ fresh. c.dirty_are_stale.ensures before.tree.nodes c.apply_to.new.tree.nodes touched before.list (held_by before.kept)
    (held_by c.mark.new.self) c.laws.ensures.well_formed c.in-Ok.ensures.edit fresh marks)

pub returns-in-Err-clause-scope : goal.returns-in-Err-clause-scope
returns-in-Err-clause-scope c = λ scope.
    c.in-Err.ensures.scope (subst InScope (sym (ap (λ (watch : Watching). watch.tree.nodes) c.self.view_is)) scope)

pub returns-in-Ok-clause-scope : goal.returns-in-Ok-clause-scope
returns-in-Ok-clause-scope c = λ scope.
    c.in-Ok.ensures.scope (subst InScope (sym (ap (λ (watch : Watching). watch.tree.nodes) c.self.view_is)) scope)
