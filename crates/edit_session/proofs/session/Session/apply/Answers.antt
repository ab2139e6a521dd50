-- The tree under way is that of the session, and the units that read what the command touched are stale.
use Rattle.std.proofs.Common.{◌≡◌, ◌∙◌, ℕ, ◌≤◌, true, length, ap, subst, sym}
use Rattle.doc_tree.specs.Kinds.{is_document}
use Rattle.doc_tree.specs.Table.{Contents}
use Rattle.doc_tree.specs.Walks.{order}
use Rattle.doc_edit_laws.specs.Along.{Edit}
use Rattle.edit_commands.specs.Touched.{holds_cell, touched_by}
use Rattle.name_scopes.specs.Scoping.{InScope}
use Rattle.kept_units.specs.Dirty.{dirty_units}
use Rattle.kept_units.specs.Kept.{Keeps}
use Rattle.kept_units.specs.Running.{IsFresh, to_run}
use Rattle.kept_units.specs.Steps.{Marks}
use Rattle.kept_units.specs.Keeping.{IsHeld, seen_in}
use Rattle.edit_session.specs.Pairs.{pair_cap_for}
use Rattle.edit_session.specs.Standing.{Standing, seen_by}
use Rattle.edit_session.proofs.KeptLemmas.{dirty-edited, kept-edited, marks-same}
use Rattle.edit_session.proofs.session.Session.apply.Goals as goal

pub invariant_of-self : goal.invariant_of-self
invariant_of-self c =
    let before = c.self.inside in
    let touched = touched_by before.tree.nodes c.args.command.now in
    let marks = marks-same c.names_are_touched_alike.ensures.held before.tree.nodes c.apply_to.new.tree.nodes touched
    (holds_cell c.apply_to.new.tree.nodes c.in-Ok.touched)
    (seen_in before.kept) (seen_in c.mark.new.self) c.laws.ensures.well_formed c.in-Ok.ensures.edit c.in-Ok.ensures.touched c.mark.ensures.marks in
    record {
      sound = c.self.invariant.sound;
      typed = c.self.invariant.typed;
      document = c.in-Ok.ensures.document;
      cap = c.in-Ok.ensures.cap ∙ c.self.invariant.cap;
      within =
          subst (λ (cap : ℕ). length (order c.apply_to.new.tree.nodes) ≤ cap) (sym c.in-Ok.ensures.cap)
          (c.edits_stay_within.ensures before.tree c.args.command.now c.apply_to.new.tree.nodes c.laws.ensures.well_formed
          c.self.invariant.document c.in-Ok.ensures.within c.in-Ok.ensures.edited c.self.invariant.within);
      held = c.mark.ensures.held before.plan before.tree.nodes touched c.laws.ensures.well_formed c.in-Ok.ensures.edit c.self.invariant.held;
      keeps = kept-edited c.edits_keep.ensures before.plan before.tree.nodes c.apply_to.new.tree.nodes touched
          (seen_in before.kept) (seen_in c.mark.new.self) c.laws.ensures.well_formed c.in-Ok.ensures.edit c.self.invariant.keeps marks;
    }

pub returns-in-Ok-clause-marked : goal.returns-in-Ok-clause-marked
returns-in-Ok-clause-marked c =
    let before = c.self.inside in
    subst (λ (s : Standing). Marks s.tree.nodes (touched_by s.tree.nodes c.args.command.now) (seen_by s) (seen_in c.mark.new.self)) c.self.view_is
    (marks-same c.names_are_touched_alike.ensures.held before.tree.nodes c.apply_to.new.tree.nodes (touched_by before.tree.nodes c.args.command.now)
    (holds_cell c.apply_to.new.tree.nodes c.in-Ok.touched) (seen_in before.kept) (seen_in c.mark.new.self) c.laws.ensures.well_formed
    c.in-Ok.ensures.edit
    c.in-Ok.ensures.touched c.mark.ensures.marks)

pub returns-in-Ok-clause-dirty : goal.returns-in-Ok-clause-dirty
returns-in-Ok-clause-dirty c =
    let before = c.self.inside in
    let touched = touched_by before.tree.nodes c.args.command.now in
    let marks = marks-same c.names_are_touched_alike.ensures.held before.tree.nodes c.apply_to.new.tree.nodes touched
    (holds_cell c.apply_to.new.tree.nodes c.in-Ok.touched)
    (seen_in before.kept) (seen_in c.mark.new.self) c.laws.ensures.well_formed c.in-Ok.ensures.edit c.in-Ok.ensures.touched c.mark.ensures.marks in
    subst (λ (s : Standing). IsFresh s.plan s.tree.nodes (seen_by s) →
    to_run s.plan c.apply_to.new.tree.nodes (seen_in c.mark.new.self) ≡ dirty_units s.plan s.tree.nodes c.apply_to.new.tree.nodes (touched_by s.tree.nodes c.args.command.now)) c.self.view_is
    (dirty-edited c.dirty_are_run.ensures.all before.plan before.tree.nodes c.apply_to.new.tree.nodes touched (seen_in before.kept) (seen_in c.mark.new.self)
    c.self.invariant.sound c.laws.ensures.well_formed c.in-Ok.ensures.edit marks c.self.invariant.typed)

pub returns-in-Ok-clause-edit : goal.returns-in-Ok-clause-edit
returns-in-Ok-clause-edit c =
    subst (λ (s : Standing). Edit s.tree.nodes c.apply_to.new.tree.nodes (touched_by s.tree.nodes c.args.command.now)) c.self.view_is c.in-Ok.ensures.edit

pub returns-in-Err-clause-scope : goal.returns-in-Err-clause-scope
returns-in-Err-clause-scope c = λ scope.
    c.in-Err.ensures.scope (subst InScope (sym (ap (λ (session : Standing). session.tree.nodes) c.self.view_is)) scope)

pub returns-in-Ok-clause-scope : goal.returns-in-Ok-clause-scope
returns-in-Ok-clause-scope c = λ scope.
    c.in-Ok.ensures.scope (subst InScope (sym (ap (λ (session : Standing). session.tree.nodes) c.self.view_is)) scope)

-- a command that is not done leaves all as it was
pub invariant_of-self-in-Err : goal.invariant_of-self-in-Err
invariant_of-self-in-Err c =
    let before = c.self.inside in
    let same = sym c.in-Err.ensures.unchanged in
    record {
      sound = c.self.invariant.sound;
      typed = c.self.invariant.typed;
      document = subst (λ (tree : Contents). is_document tree.nodes ≡ true) same c.self.invariant.document;
      cap = subst (λ (tree : Contents). tree.pair_cap ≡ pair_cap_for before.plan) same c.self.invariant.cap;
      within = subst (λ (tree : Contents). length (order tree.nodes) ≤ tree.pair_cap) same c.self.invariant.within;
      held = subst (λ (tree : Contents). IsHeld before.plan tree.nodes before.kept) same c.self.invariant.held;
      keeps = subst (λ (tree : Contents). Keeps before.plan tree.nodes (seen_in before.kept)) same c.self.invariant.keeps;
    }
