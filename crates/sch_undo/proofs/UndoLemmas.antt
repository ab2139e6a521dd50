-- What an edit, and an undo, leave of a history.
use Rattle.std.proofs.Common.{◌≡◌, ℕ, ◌+◌, ◌<◌, ◌≤◌, Bool, true, false, ◌||◌, List, [], ◌∷◌, length, drop, take, None, Some, option_map, refl, sym, ap, ◌∙◌, subst, arith}
use Rattle.std.specs.Prelude.{All, slice_get}
use Rattle.circular_buffer.specs.Buffer.{Buffer, buffer}
use Rattle.doc_tree.specs.cell.Cell.{Cell}
use Rattle.doc_tree.specs.Kinds.{is_document}
use Rattle.doc_tree.specs.Laws.{WellFormed}
use Rattle.doc_tree.specs.SameTree.{SameTree}
use Rattle.doc_tree.specs.Table.{Contents, Table}
use Rattle.doc_tree.specs.limits.TheConstants.{MAX_NODE_NUMBERS}
use Rattle.doc_edit_laws.specs.Along.{Edit, Edits, EditsLeave, Left}
use Rattle.doc_edit_laws.specs.Along as along
use Rattle.doc_tree.specs.Walks.{order}
use Rattle.name_scopes.specs.Scoping.{InScope}
use Rattle.edit_script.specs.declared.command.Command.{Command}
use Rattle.edit_script.specs.WellFormed.{WellFormedCommand}
use Rattle.edit_commands.specs.Commands.{IsEdited, RefusesCommand, command_refusal}
use Rattle.edit_commands.specs.declared.refusal.ApplyError.{ApplyError}
use Rattle.edit_commands.specs.declared.refusal.ApplyError.TheVariants as refusal
use Rattle.edit_commands.specs.Touched.{touched_by}
use Rattle.edit_iso_laws.specs.CommandsMove.{DoneInTurn}
use Rattle.edit_paths.specs.Entries.{undoing, undoing_numbers}
use Rattle.sch_compiled.specs.Soundness.{IsSound}
use Rattle.edit_session.specs.Locality.{RulesTyped}
use Rattle.edit_session.specs.KeptLaws.{DirtyUnitsAreRun}
use Rattle.edit_session.specs.Standing.{Standing, seen_by}
use Rattle.state_iso_laws.specs.States.{SameTreesShowTheSame, ShowTheSame}
use Rattle.undo_entries.specs.declared.entry.Entry.{Entry}
use Rattle.history_laws.specs.Histories.{HistoriesStand, LeadsBack, StandsFor}
use Rattle.sch_undo.specs.Remembered.{Newest, RefusesEdit, Remembered, Remembers, RunsDirty, StoppedIn, Undone}
use Rattle.sch_undo.specs.inner.Doing.{Did, Stopped}
use Rattle.sch_undo.proofs.BackLemmas.{can-do, leads-back, newest, others-stand}
use Rattle.edit_undo_laws.specs.Undoing.{CommandsAreUndone, UndoingsAreFormed}

-- an edit gives no number up
pub numbers-grow : EditsLeave → (T U : Table) (touched : Cell → Bool) → WellFormed T → Edit T U touched → length T ≤ length U
numbers-grow leave T U touched form edit =
    let edits : Edits T U (λ c. false || touched c) = (along.then) T U (λ c. false) touched along.none edit in
    let left : Left T U (λ c. false || touched c) = leave T U (λ c. false || touched c) form edits in
    left.agree.numbers

-- after an edit its entry and those before stand for the tree from before it and those before
pub edited-stands : HistoriesStand → (before after : Contents) (kept left : Buffer Entry) (entry : Entry) (trees : List Contents) →
    LeadsBack after entry before →
    left ≡ buffer (take kept.capacity (entry ∷ kept.items)) kept.capacity → StandsFor before kept.items trees →
    StandsFor after left.items (take kept.capacity (before ∷ trees))
edited-stands stand before after kept left entry trees leads pushed stands =
    subst (λ (b : Buffer Entry). StandsFor after b.items (take kept.capacity (before ∷ trees))) (sym pushed)
    (stand.kept kept.capacity after (entry ∷ kept.items) (before ∷ trees) (leads, stands))

-- what the session answers to a command that isn't done, a history does
pub refuses-edit : (h : Remembered) (command : Command) (error : ApplyError) → RefusesCommand h.session.tree command error → RefusesEdit h command error
refuses-edit h command (refusal.Refused found) told = told
refuses-edit h command refusal.Memory told = tt

-- where no entry is kept no number is told, and else that of the newest one
pub none-kept : (entries : List Entry) → option_map (λ (e : Entry). e.numbers) (slice_get entries 0) ≡ None → entries ≡ []
none-kept [] h = refl
none-kept (entry ∷ entries) h = cc

pub some-kept : (entries : List Entry) (n : ℕ) → option_map (λ (e : Entry). e.numbers) (slice_get entries 0) ≡ Some n →
    (entry : Entry) × (slice_get entries 0 ≡ Some entry) × (entry.numbers ≡ n)
some-kept [] n h = absurd (cc)
some-kept (entry ∷ entries) n h = (entry, refl, cc)

pub newest-number : (entries : List Entry) (n : ℕ) (entry : Entry) → option_map (λ (e : Entry). e.numbers) (slice_get entries 0) ≡ Some n →
    slice_get entries 0 ≡ Some entry → entry.numbers ≡ n
newest-number [] n entry h there = absurd (cc)
newest-number (first ∷ entries) n entry h there = cc

-- a history as contracts see it
abbrev pub seen : Standing → Buffer Entry → Remembered
seen session entries = record { session = session; entries = entries.items; depth = entries.capacity }

-- the newest one needs more numbers than are left
pub lacks-numbers : (session : Standing) (kept : Buffer Entry) (n : ℕ) → option_map (λ (e : Entry). e.numbers) (slice_get kept.items 0) ≡ Some n →
    MAX_NODE_NUMBERS < length session.tree.nodes + n → Newest (seen session kept) (λ count. MAX_NODE_NUMBERS < count)
lacks-numbers session kept n h less =
    let some = some-kept kept.items n h in
    let more : MAX_NODE_NUMBERS < length session.tree.nodes + some.0.numbers = omega (arith, less, some.2) in
    record {
      entry = some.0;
      others = drop 1 kept.items;
      is = newest kept.items some.0 some.1;
      numbers = more;
    }

-- the entry of a command that was done leads back
pub entry-leads : CommandsAreUndone → UndoingsAreFormed → EditsLeave → (old new : Contents) (command : Command) (entry : Entry) → WellFormed old.nodes →
    InScope old.nodes → is_document old.nodes ≡ true → length (order old.nodes) ≤ old.pair_cap → WellFormedCommand command →
    command_refusal old command ≡ None → IsEdited old.nodes command new.nodes → Edit old.nodes new.nodes (touched_by old.nodes command) →
    new.pair_cap ≡ old.pair_cap → entry.commands ≡ undoing old.nodes command → entry.numbers ≡ undoing_numbers old.nodes command →
    LeadsBack new entry old
entry-leads undone formed leave old new command entry form scope document within good free edited edit cap commands numbers =
    leads-back undone formed old new command entry form scope document within good free edited cap
    (numbers-grow leave old.nodes new.nodes (touched_by old.nodes command) form edit) commands numbers

-- what takes a command back is the newest entry then
pub was-remembered : (old new : Standing) (kept left : Buffer Entry) (command : Command) (entry : Entry) →
    entry.commands ≡ undoing old.tree.nodes command → entry.numbers ≡ undoing_numbers old.tree.nodes command →
    left ≡ buffer (take kept.capacity (entry ∷ kept.items)) kept.capacity → Remembers (seen old kept) command (seen new left)
was-remembered old new kept left command entry commands numbers pushed = record {
  entry = entry;
  commands = commands;
  numbers = numbers;
  entries = ap (λ (b : Buffer Entry). b.items) pushed;
}

-- the newest entry was taken, and some of its commands were done
module _ (old new : Standing) (kept left : Buffer Entry) (entry : Entry) (there : slice_get kept.items 0 ≡ Some entry)
    (popped : left ≡ buffer (drop 1 kept.items) kept.capacity) where
  pub in-front : kept.items ≡ entry ∷ left.items
  in-front = newest kept.items entry there ∙ ap (λ (es : List Entry). entry ∷ es) (sym (ap (λ (b : Buffer Entry). b.items) popped))

  pub stand-front : (trees : List Contents) → StandsFor old.tree kept.items trees → StandsFor old.tree (entry ∷ left.items) trees
  stand-front trees stands = subst (λ (es : List Entry). StandsFor old.tree es trees) in-front stands

  -- its commands can be done
  pub front-can : (trees : List Contents) → StandsFor old.tree kept.items trees → length old.tree.nodes + entry.numbers ≤ MAX_NODE_NUMBERS →
      All WellFormedCommand entry.commands × ((end : Contents) × DoneInTurn old.tree entry.commands end)
  front-can trees stands room = can-do old.tree entry left.items trees (stand-front trees stands) room

  -- one wanted memory
  pub was-stopped : (cleared : Buffer Entry) → cleared ≡ buffer [] left.capacity → Stopped old entry.commands new →
      StoppedIn (seen old kept) (seen new cleared)
  was-stopped cleared none stopped = record {
    entry = entry;
    others = left.items;
    is = in-front;
    front = stopped.front;
    command = stopped.command;
    back = stopped.back;
    commands = stopped.is;
    done = stopped.did.done;
    wanted = stopped.wanted;
    forgotten = ap (λ (b : Buffer Entry). b.items) none;
  }

  -- all were done
  module _ (form : WellFormed old.tree.nodes) (did : Did old entry.commands new) where
    pub ran-dirty : DirtyUnitsAreRun → IsSound old.plan → ((p : ℕ) → p < length old.plan.patterns → RulesTyped old.plan p) →
        RunsDirty (seen old kept) (seen new left)
    ran-dirty run sound typed = record {
      entry = entry;
      others = left.items;
      is = in-front;
      touched = did.touched;
      in_turn = did.in_turn;
      marks = did.marks;
      run = λ fresh. run old.plan old.tree.nodes new.tree.nodes did.touched (seen_by old) (seen_by new) sound form did.edits fresh did.marks typed;
    }

    module _ (stand : HistoriesStand) (document : is_document old.tree.nodes ≡ true)
        (room : length old.tree.nodes + entry.numbers ≤ MAX_NODE_NUMBERS) where
      pub rest-stands : (trees : List Contents) → StandsFor old.tree kept.items trees →
          ((rest : List Contents) × StandsFor new.tree left.items rest) × (length new.tree.nodes ≡ length old.tree.nodes + entry.numbers)
      rest-stands trees stands = others-stand stand old.tree new.tree entry left.items trees form document (stand-front trees stands) did.done room

      pub was-undone : (trees : List Contents) → StandsFor old.tree kept.items trees → Undone (seen old kept) (seen new left)
      was-undone trees stands = record {
        newest = record { entry = entry; others = left.items; is = in-front; numbers = (room, (rest-stands trees stands).1) };
        dropped = refl;
        done = did.done;
      }

      pub went-back : (tree : Contents) (trees : List Contents) → StandsFor old.tree kept.items (tree ∷ trees) →
          SameTree tree.nodes new.tree.nodes × StandsFor new.tree left.items trees
      went-back tree trees stands =
          let back = stand.undone old.tree new.tree entry left.items tree trees form document (stand-front (tree ∷ trees) stands) did.done room in
          (back.0, back.1)

      pub shows-back : EditsLeave → SameTreesShowTheSame → (tree : Contents) (trees : List Contents) → StandsFor old.tree kept.items (tree ∷ trees) →
          ShowTheSame old.plan tree.nodes new.tree.nodes
      shows-back leave same tree trees stands =
          let leads : LeadsBack old.tree entry tree = (stand-front (tree ∷ trees) stands).0 in
          let after : Left old.tree.nodes new.tree.nodes did.touched = leave old.tree.nodes new.tree.nodes did.touched form did.edits in
          same old.plan tree.nodes new.tree.nodes leads.well_formed after.after.well_formed (went-back tree trees stands).0
