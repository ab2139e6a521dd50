-- The newest entry leads back, and the others stand then for the older trees.
use Rattle.std.proofs.Common.{◌≡◌, ◌∙◌, ◌+◌, ◌<◌, ◌≤◌, List, [], ◌∷◌, length, None, Some, ap, subst, sym, arith}
use Rattle.std.specs.Prelude.{All, slice_get}
use Rattle.std.proofs.lemmas.List.Elements.{All-nil, All-rest}
use Rattle.circular_buffer.specs.Buffer.{Buffer}
use Rattle.doc_tree.specs.SameTree.{SameTree}
use Rattle.doc_tree.specs.Table.{Contents}
use Rattle.doc_tree.specs.limits.TheConstants.{MAX_NODE_NUMBERS}
use Rattle.edit_script.specs.declared.command.Command.{Command}
use Rattle.edit_script.specs.WellFormed.{WellFormedCommand}
use Rattle.edit_iso_laws.specs.CommandsMove.{DoneInTurn}
use Rattle.edit_session.specs.Standing.{Standing}
use Rattle.state_iso_laws.specs.States.{ShowTheSame}
use Rattle.undo_entries.specs.declared.entry.Entry.{Entry}
use Rattle.history_laws.specs.Histories.{StandsFor}
use Rattle.sch_undo.specs.declared.history.TheConstants.{MAX_UNDO_DEPTH}
use Rattle.sch_undo.specs.Remembered.{Newest, Remembered, RunsDirty, StoppedIn, Undone}
use Rattle.sch_undo.specs.inner.Doing.{Did, NamesFirst, Stopped}
use Rattle.sch_undo.specs.inner.Held.{NamesComeFirst}
use Rattle.sch_undo.proofs.NameLemmas.{front-names}
use Rattle.sch_undo.proofs.UndoLemmas.{front-can, in-front, lacks-numbers, newest-number, none-kept, ran-dirty, rest-stands, seen, shows-back, was-stopped, was-undone, went-back}
use Rattle.sch_undo.proofs.history.History.undo.Goals as goal

pub returns-in_default-clause-refused : goal.returns-in_default-clause-refused
returns-in_default-clause-refused c =
    let before = c.self.inside in
    let none : c.newest_numbers.result ≡ None = c.in_default.is in
    subst (λ (h : Remembered). h.entries ≡ []) c.self.view_is (none-kept before.entries.items (sym c.newest_numbers.ensures ∙ none))

pub returns-then-numbers-numbers_left-clause-refused : goal.returns-then-numbers-numbers_left-clause-refused
returns-then-numbers-numbers_left-clause-refused c =
    let before = c.self.inside in
    subst (λ (h : Remembered). Newest h (λ count. MAX_NODE_NUMBERS < count)) c.self.view_is
    (lacks-numbers before.session before.entries c.in-Some.numbers (sym c.in-Some.ensures)
    (omega (arith, c.if-numbers-numbers_left.true, c.numbers_left.ensures, ap (λ (tree : Contents). length tree.nodes) c.tree.ensures)))

pub do_all-done-requires-clause-formed : goal.do_all-done-requires-clause-formed
do_all-done-requires-clause-formed c =
    let before = c.self.inside in
    let entry : Entry = c.in-Some-pop_front.newest in
    let there : slice_get before.entries.items 0 ≡ Some entry = sym c.in-Some-pop_front.ensures.value in
    let told = newest-number before.entries.items c.in-Some.numbers entry (sym c.in-Some.ensures) there in
    let room : length before.session.tree.nodes + entry.numbers ≤ MAX_NODE_NUMBERS =
    omega (arith, told, c.if-numbers-numbers_left.false, c.numbers_left.ensures, ap (λ (tree : Contents). length tree.nodes) c.tree.ensures) in
    subst (All WellFormedCommand) (sym c.as_slice.ensures)
    (front-can before.session before.session before.entries c.pop_front.new.self entry there c.pop_front.ensures.items c.self.invariant.trees
    c.self.invariant.stand room).0

pub do_all-done-requires-clause-free : goal.do_all-done-requires-clause-free
do_all-done-requires-clause-free c =
    let before = c.self.inside in
    let entry : Entry = c.in-Some-pop_front.newest in
    let there : slice_get before.entries.items 0 ≡ Some entry = sym c.in-Some-pop_front.ensures.value in
    let told = newest-number before.entries.items c.in-Some.numbers entry (sym c.in-Some.ensures) there in
    let room : length before.session.tree.nodes + entry.numbers ≤ MAX_NODE_NUMBERS =
    omega (arith, told, c.if-numbers-numbers_left.false, c.numbers_left.ensures, ap (λ (tree : Contents). length tree.nodes) c.tree.ensures) in
    subst (λ (cs : List Command). (end : Contents) × DoneInTurn before.session.tree cs end) (sym c.as_slice.ensures)
    (front-can before.session before.session before.entries c.pop_front.new.self entry there c.pop_front.ensures.items c.self.invariant.trees
    c.self.invariant.stand room).1

pub do_all-done-requires-clause-names : goal.do_all-done-requires-clause-names
do_all-done-requires-clause-names c =
    let before = c.self.inside in
    let entry : Entry = c.in-Some-pop_front.newest in
    let there : slice_get before.entries.items 0 ≡ Some entry = sym c.in-Some-pop_front.ensures.value in
    subst NamesFirst (sym c.as_slice.ensures)
    (front-names entry before.entries.items c.pop_front.new.self.items
    (in-front before.session before.session before.entries c.pop_front.new.self entry there c.pop_front.ensures.items) c.self.invariant.names)

pub invariant_of-self : goal.invariant_of-self
invariant_of-self c =
    let before = c.self.inside in
    let after : Standing = c.do_all-done.new.session in
    let entry : Entry = c.in-Some-pop_front.newest in
    let there : slice_get before.entries.items 0 ≡ Some entry = sym c.in-Some-pop_front.ensures.value in
    let told = newest-number before.entries.items c.in-Some.numbers entry (sym c.in-Some.ensures) there in
    let room : length before.session.tree.nodes + entry.numbers ≤ MAX_NODE_NUMBERS =
    omega (arith, told, c.if-numbers-numbers_left.false, c.numbers_left.ensures, ap (λ (tree : Contents). length tree.nodes) c.tree.ensures) in
    let did : Did before.session entry.commands after =
    subst (λ (cs : List Command). Did before.session cs after) c.as_slice.ensures (rw c.in-Ok.is at c.do_all-done.ensures.done) in
    let rest = rest-stands before.session after before.entries c.pop_front.new.self entry there c.pop_front.ensures.items c.laws.ensures.well_formed did
    c.histories_stand.ensures c.laws.ensures.document room c.self.invariant.trees c.self.invariant.stand in
    record {
      some = subst (λ (b : Buffer Entry). 1 ≤ b.capacity) (sym c.pop_front.ensures.items) c.self.invariant.some;
      few = subst (λ (b : Buffer Entry). b.capacity ≤ MAX_UNDO_DEPTH) (sym c.pop_front.ensures.items) c.self.invariant.few;
      scoped = did.scope c.self.invariant.scoped;
      names = All-rest NamesComeFirst entry c.pop_front.new.self.items before.entries.items
          (in-front before.session before.session before.entries c.pop_front.new.self entry there c.pop_front.ensures.items) c.self.invariant.names;
      trees = rest.0.0;
      stand = rest.0.1;
    }

pub returns-in-Ok-clause-undone : goal.returns-in-Ok-clause-undone
returns-in-Ok-clause-undone c =
    let before = c.self.inside in
    let after : Standing = c.do_all-done.new.session in
    let entry : Entry = c.in-Some-pop_front.newest in
    let there : slice_get before.entries.items 0 ≡ Some entry = sym c.in-Some-pop_front.ensures.value in
    let told = newest-number before.entries.items c.in-Some.numbers entry (sym c.in-Some.ensures) there in
    let room : length before.session.tree.nodes + entry.numbers ≤ MAX_NODE_NUMBERS =
    omega (arith, told, c.if-numbers-numbers_left.false, c.numbers_left.ensures, ap (λ (tree : Contents). length tree.nodes) c.tree.ensures) in
    let did : Did before.session entry.commands after =
    subst (λ (cs : List Command). Did before.session cs after) c.as_slice.ensures (rw c.in-Ok.is at c.do_all-done.ensures.done) in
    subst (λ (h : Remembered). Undone h (seen after c.pop_front.new.self)) c.self.view_is
    (was-undone before.session after before.entries c.pop_front.new.self entry there c.pop_front.ensures.items c.laws.ensures.well_formed did
    c.histories_stand.ensures c.laws.ensures.document room c.self.invariant.trees c.self.invariant.stand)

pub returns-in-Ok-clause-back : goal.returns-in-Ok-clause-back
returns-in-Ok-clause-back c =
    let before = c.self.inside in
    let after : Standing = c.do_all-done.new.session in
    let entry : Entry = c.in-Some-pop_front.newest in
    let there : slice_get before.entries.items 0 ≡ Some entry = sym c.in-Some-pop_front.ensures.value in
    let told = newest-number before.entries.items c.in-Some.numbers entry (sym c.in-Some.ensures) there in
    let room : length before.session.tree.nodes + entry.numbers ≤ MAX_NODE_NUMBERS =
    omega (arith, told, c.if-numbers-numbers_left.false, c.numbers_left.ensures, ap (λ (tree : Contents). length tree.nodes) c.tree.ensures) in
    let did : Did before.session entry.commands after =
    subst (λ (cs : List Command). Did before.session cs after) c.as_slice.ensures (rw c.in-Ok.is at c.do_all-done.ensures.done) in
    subst (λ (h : Remembered). (tree : Contents) (trees : List Contents) → StandsFor h.session.tree h.entries (tree ∷ trees) →
    SameTree tree.nodes after.tree.nodes × StandsFor after.tree c.pop_front.new.self.items trees) c.self.view_is
    (went-back before.session after before.entries c.pop_front.new.self entry there c.pop_front.ensures.items c.laws.ensures.well_formed did
    c.histories_stand.ensures c.laws.ensures.document room)

pub returns-in-Ok-clause-shows : goal.returns-in-Ok-clause-shows
returns-in-Ok-clause-shows c =
    let before = c.self.inside in
    let after : Standing = c.do_all-done.new.session in
    let entry : Entry = c.in-Some-pop_front.newest in
    let there : slice_get before.entries.items 0 ≡ Some entry = sym c.in-Some-pop_front.ensures.value in
    let told = newest-number before.entries.items c.in-Some.numbers entry (sym c.in-Some.ensures) there in
    let room : length before.session.tree.nodes + entry.numbers ≤ MAX_NODE_NUMBERS =
    omega (arith, told, c.if-numbers-numbers_left.false, c.numbers_left.ensures, ap (λ (tree : Contents). length tree.nodes) c.tree.ensures) in
    let did : Did before.session entry.commands after =
    subst (λ (cs : List Command). Did before.session cs after) c.as_slice.ensures (rw c.in-Ok.is at c.do_all-done.ensures.done) in
    subst (λ (h : Remembered). (tree : Contents) (trees : List Contents) → StandsFor h.session.tree h.entries (tree ∷ trees) →
    ShowTheSame h.session.plan tree.nodes after.tree.nodes) c.self.view_is
    (shows-back before.session after before.entries c.pop_front.new.self entry there c.pop_front.ensures.items c.laws.ensures.well_formed did
    c.histories_stand.ensures c.laws.ensures.document room c.edits_leave_the_rest.ensures c.same_trees_show_the_same.ensures)

pub returns-in-Ok-clause-dirty : goal.returns-in-Ok-clause-dirty
returns-in-Ok-clause-dirty c =
    let before = c.self.inside in
    let after : Standing = c.do_all-done.new.session in
    let entry : Entry = c.in-Some-pop_front.newest in
    let there : slice_get before.entries.items 0 ≡ Some entry = sym c.in-Some-pop_front.ensures.value in
    let did : Did before.session entry.commands after =
    subst (λ (cs : List Command). Did before.session cs after) c.as_slice.ensures (rw c.in-Ok.is at c.do_all-done.ensures.done) in
    subst (λ (h : Remembered). RunsDirty h (seen after c.pop_front.new.self)) c.self.view_is
    (ran-dirty before.session after before.entries c.pop_front.new.self entry there c.pop_front.ensures.items c.laws.ensures.well_formed did
    c.dirty_are_run.ensures.all c.laws.ensures.sound c.laws.ensures.typed)

pub returns-in-Ok-clause-plan : goal.returns-in-Ok-clause-plan
returns-in-Ok-clause-plan c =
    let before = c.self.inside in
    let after : Standing = c.do_all-done.new.session in
    let entry : Entry = c.in-Some-pop_front.newest in
    let did : Did before.session entry.commands after =
    subst (λ (cs : List Command). Did before.session cs after) c.as_slice.ensures (rw c.in-Ok.is at c.do_all-done.ensures.done) in
    did.plan ∙ ap (λ (h : Remembered). h.session.plan) c.self.view_is

pub returns-in-Ok-clause-cap : goal.returns-in-Ok-clause-cap
returns-in-Ok-clause-cap c =
    let before = c.self.inside in
    let after : Standing = c.do_all-done.new.session in
    let entry : Entry = c.in-Some-pop_front.newest in
    let did : Did before.session entry.commands after =
    subst (λ (cs : List Command). Did before.session cs after) c.as_slice.ensures (rw c.in-Ok.is at c.do_all-done.ensures.done) in
    did.cap ∙ ap (λ (h : Remembered). h.session.tree.pair_cap) c.self.view_is

pub invariant_of-self-in-Err : goal.invariant_of-self-in-Err
invariant_of-self-in-Err c =
    let before = c.self.inside in
    let after : Standing = c.do_all-done.new.session in
    let entry : Entry = c.in-Some-pop_front.newest in
    let there : slice_get before.entries.items 0 ≡ Some entry = sym c.in-Some-pop_front.ensures.value in
    let stopped : Stopped before.session entry.commands after =
    subst (λ (cs : List Command). Stopped before.session cs after) c.as_slice.ensures (rw c.in-Err.is at c.do_all-done.ensures.stopped) in
    record {
      some = subst (λ (b : Buffer Entry). 1 ≤ b.capacity) (sym c.clear.ensures)
          (subst (λ (b : Buffer Entry). 1 ≤ b.capacity) (sym c.pop_front.ensures.items) c.self.invariant.some);
      few = subst (λ (b : Buffer Entry). b.capacity ≤ MAX_UNDO_DEPTH) (sym c.clear.ensures)
          (subst (λ (b : Buffer Entry). b.capacity ≤ MAX_UNDO_DEPTH) (sym c.pop_front.ensures.items) c.self.invariant.few);
      scoped = stopped.did.scope c.self.invariant.scoped;
      names = subst (λ (b : Buffer Entry). All NamesComeFirst b.items) (sym c.clear.ensures) (All-nil NamesComeFirst);
      trees = [];
      stand = subst (λ (b : Buffer Entry). StandsFor after.tree b.items []) (sym c.clear.ensures) tt;
    }

pub returns-in-Err-clause-refused : goal.returns-in-Err-clause-refused
returns-in-Err-clause-refused c =
    let before = c.self.inside in
    let entry : Entry = c.in-Some-pop_front.newest in
    let there : slice_get before.entries.items 0 ≡ Some entry = sym c.in-Some-pop_front.ensures.value in
    let told = newest-number before.entries.items c.in-Some.numbers entry (sym c.in-Some.ensures) there in
    let room : length before.session.tree.nodes + entry.numbers ≤ MAX_NODE_NUMBERS =
    omega (arith, told, c.if-numbers-numbers_left.false, c.numbers_left.ensures, ap (λ (tree : Contents). length tree.nodes) c.tree.ensures) in
    subst (λ (h : Remembered). Newest h (λ count. count ≤ MAX_NODE_NUMBERS)) c.self.view_is
    (record {
      entry = entry;
      others = c.pop_front.new.self.items;
      is = in-front before.session before.session before.entries c.pop_front.new.self entry there c.pop_front.ensures.items;
      numbers = room;
    })

pub returns-in-Err-clause-left : goal.returns-in-Err-clause-left
returns-in-Err-clause-left c =
    let before = c.self.inside in
    let after : Standing = c.do_all-done.new.session in
    let entry : Entry = c.in-Some-pop_front.newest in
    let there : slice_get before.entries.items 0 ≡ Some entry = sym c.in-Some-pop_front.ensures.value in
    let stopped : Stopped before.session entry.commands after =
    subst (λ (cs : List Command). Stopped before.session cs after) c.as_slice.ensures (rw c.in-Err.is at c.do_all-done.ensures.stopped) in
    subst (λ (h : Remembered). StoppedIn h (seen after c.clear.new.self)) c.self.view_is
    (was-stopped before.session after before.entries c.pop_front.new.self entry there c.pop_front.ensures.items c.clear.new.self c.clear.ensures stopped)

pub returns-in-Err-clause-plan : goal.returns-in-Err-clause-plan
returns-in-Err-clause-plan c =
    let before = c.self.inside in
    let after : Standing = c.do_all-done.new.session in
    let entry : Entry = c.in-Some-pop_front.newest in
    let there : slice_get before.entries.items 0 ≡ Some entry = sym c.in-Some-pop_front.ensures.value in
    let stopped : Stopped before.session entry.commands after =
    subst (λ (cs : List Command). Stopped before.session cs after) c.as_slice.ensures (rw c.in-Err.is at c.do_all-done.ensures.stopped) in
    stopped.did.plan ∙ ap (λ (h : Remembered). h.session.plan) c.self.view_is

pub returns-in-Err-clause-cap : goal.returns-in-Err-clause-cap
returns-in-Err-clause-cap c =
    let before = c.self.inside in
    let after : Standing = c.do_all-done.new.session in
    let entry : Entry = c.in-Some-pop_front.newest in
    let there : slice_get before.entries.items 0 ≡ Some entry = sym c.in-Some-pop_front.ensures.value in
    let stopped : Stopped before.session entry.commands after =
    subst (λ (cs : List Command). Stopped before.session cs after) c.as_slice.ensures (rw c.in-Err.is at c.do_all-done.ensures.stopped) in
    stopped.did.cap ∙ ap (λ (h : Remembered). h.session.tree.pair_cap) c.self.view_is
