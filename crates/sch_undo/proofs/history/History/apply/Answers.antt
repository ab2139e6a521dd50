-- What takes the command back is kept, by the tree from before it.
use Rattle.std.proofs.Common.{◌≡◌, ◌≤◌, List, ◌∷◌, take, subst, sym}
use Rattle.circular_buffer.specs.Buffer.{Buffer}
use Rattle.doc_tree.specs.Table.{Contents}
use Rattle.doc_edit_laws.specs.Along.{Edit}
use Rattle.edit_commands.specs.Touched.{touched_by}
use Rattle.edit_commands.specs.Commands.{RefusesCommand}
use Rattle.edit_session.specs.Dirty.{dirty_units}
use Rattle.edit_session.specs.Running.{IsFresh, to_run}
use Rattle.edit_session.specs.Steps.{Marks}
use Rattle.edit_session.specs.Standing.{Standing, seen_by}
use Rattle.name_scopes.specs.Scoping.{InScope}
use Rattle.undo_entries.specs.declared.entry.Entry.{Entry}
use Rattle.history_laws.specs.Histories.{LeadsBack, StandsFor}
use Rattle.sch_undo.specs.declared.history.TheConstants.{MAX_UNDO_DEPTH}
use Rattle.sch_undo.specs.Remembered.{Remembered, Remembers}
use Rattle.sch_undo.proofs.NameLemmas.{pushed-names}
use Rattle.sch_undo.proofs.UndoLemmas.{edited-stands, entry-leads, refuses-edit, seen, was-remembered}
use Rattle.sch_undo.proofs.history.History.apply.Goals as goal

pub invariant_of-self : goal.invariant_of-self
invariant_of-self c =
    let before = c.self.inside in
    let leads : LeadsBack c.apply.new.self.tree c.in_ok-entry.entry before.session.tree =
    entry-leads c.commands_are_undone.ensures c.undoings_are_formed.ensures c.edits_leave_the_rest.ensures before.session.tree c.apply.new.self.tree
    c.args.command.now c.in_ok-entry.entry c.laws.ensures.well_formed c.self.invariant.scoped c.laws.ensures.document c.laws.ensures.within
    c.requires.formed c.in-Ok.ensures.within c.in-Ok.ensures.edited c.in-Ok.ensures.edit c.in-Ok.ensures.cap c.in_ok-entry.ensures.commands
    c.in_ok-entry.ensures.numbers in
    record {
      some = subst (λ (b : Buffer Entry). 1 ≤ b.capacity) (sym c.push_front.ensures.items) c.self.invariant.some;
      few = subst (λ (b : Buffer Entry). b.capacity ≤ MAX_UNDO_DEPTH) (sym c.push_front.ensures.items) c.self.invariant.few;
      scoped = c.in-Ok.ensures.scope c.self.invariant.scoped;
      names = pushed-names before.session.tree.nodes c.args.command.now before.entries c.push_front.new.self c.in_ok-entry.entry c.in_ok-entry.ensures.commands
          c.push_front.ensures.items c.self.invariant.names;
      trees = take before.entries.capacity (before.session.tree ∷ c.self.invariant.trees);
      stand = edited-stands c.histories_stand.ensures before.session.tree c.apply.new.self.tree before.entries c.push_front.new.self
          c.in_ok-entry.entry c.self.invariant.trees leads c.push_front.ensures.items c.self.invariant.stand;
    }

pub returns-in-Ok-clause-kept : goal.returns-in-Ok-clause-kept
returns-in-Ok-clause-kept c =
    let before = c.self.inside in
    let leads : LeadsBack c.apply.new.self.tree c.in_ok-entry.entry before.session.tree =
    entry-leads c.commands_are_undone.ensures c.undoings_are_formed.ensures c.edits_leave_the_rest.ensures before.session.tree c.apply.new.self.tree
    c.args.command.now c.in_ok-entry.entry c.laws.ensures.well_formed c.self.invariant.scoped c.laws.ensures.document c.laws.ensures.within
    c.requires.formed c.in-Ok.ensures.within c.in-Ok.ensures.edited c.in-Ok.ensures.edit c.in-Ok.ensures.cap c.in_ok-entry.ensures.commands
    c.in_ok-entry.ensures.numbers in
    subst (λ (h : Remembered). (trees : List Contents) → StandsFor h.session.tree h.entries trees →
    StandsFor c.apply.new.self.tree c.push_front.new.self.items (take h.depth (h.session.tree ∷ trees))) c.self.view_is
    (λ trees stands. edited-stands c.histories_stand.ensures before.session.tree c.apply.new.self.tree before.entries c.push_front.new.self
    c.in_ok-entry.entry trees leads c.push_front.ensures.items stands)

pub returns-in-Ok-clause-remembered : goal.returns-in-Ok-clause-remembered
returns-in-Ok-clause-remembered c =
    let before = c.self.inside in
    subst (λ (h : Remembered). Remembers h c.args.command.now (seen c.apply.new.self c.push_front.new.self)) c.self.view_is
    (was-remembered before.session c.apply.new.self before.entries c.push_front.new.self c.args.command.now c.in_ok-entry.entry
    c.in_ok-entry.ensures.commands c.in_ok-entry.ensures.numbers c.push_front.ensures.items)

pub returns-in-Ok-clause-edit : goal.returns-in-Ok-clause-edit
returns-in-Ok-clause-edit c =
    subst (λ (h : Remembered). Edit h.session.tree.nodes c.apply.new.self.tree.nodes (touched_by h.session.tree.nodes c.args.command.now)) c.self.view_is
    c.in-Ok.ensures.edit

pub returns-in-Ok-clause-marked : goal.returns-in-Ok-clause-marked
returns-in-Ok-clause-marked c =
    subst (λ (h : Remembered). Marks h.session.tree.nodes (touched_by h.session.tree.nodes c.args.command.now) (seen_by h.session) (seen_by c.apply.new.self)) c.self.view_is
    c.in-Ok.ensures.marked

pub returns-in-Ok-clause-dirty : goal.returns-in-Ok-clause-dirty
returns-in-Ok-clause-dirty c =
    subst (λ (h : Remembered). IsFresh h.session.plan h.session.tree.nodes (seen_by h.session) →
    to_run h.session.plan c.apply.new.self.tree.nodes (seen_by c.apply.new.self) ≡
    dirty_units h.session.plan h.session.tree.nodes c.apply.new.self.tree.nodes (touched_by h.session.tree.nodes c.args.command.now)) c.self.view_is
    c.in-Ok.ensures.dirty

-- a command that is not done leaves all as it was
pub invariant_of-self-in-Err : goal.invariant_of-self-in-Err
invariant_of-self-in-Err c =
    let before = c.self.inside in
    let same : before.session ≡ c.apply.new.self = sym c.in-Err.ensures.unchanged in
    record {
      some = c.self.invariant.some;
      few = c.self.invariant.few;
      scoped = subst (λ (s : Standing). InScope s.tree.nodes) same c.self.invariant.scoped;
      names = c.self.invariant.names;
      trees = c.self.invariant.trees;
      stand = subst (λ (s : Standing). StandsFor s.tree before.entries.items c.self.invariant.trees) same c.self.invariant.stand;
    }

pub returns-in-Err-clause-refused : goal.returns-in-Err-clause-refused
returns-in-Err-clause-refused c =
    refuses-edit c.args.self.now c.args.command.now c.in-Err.error
    (subst (λ (h : Remembered). RefusesCommand h.session.tree c.args.command.now c.in-Err.error) c.self.view_is c.in-Err.ensures.refused)
