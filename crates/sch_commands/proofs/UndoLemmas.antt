-- How the following of a script goes on in which edits can be undone, and how it ends.
use Rattle.std.proofs.Common.{◌∙◌, ◌≡◌, ◌⊎◌, inr, inl, ℕ, ◌+◌, ◌<◌, ◌≤◌, ◌^◌, Bool, false, List, [], ◌∷◌, ◌++◌, append-nil, append_assoc, length, take, IfErr, OnOk, None, Some, Result, Ok, Err, refl, ap, sym, subst, arith}
use Rattle.std.proofs.KnownBytes.{Appends-nil, Appends-trans}
use Rattle.std.proofs.lemmas.List.{take-map}
use Rattle.sch_io.specs.SinkLog.{SinkLog}
use Rattle.sch_io.specs.Wrote.{Appends}
use Rattle.doc_tree.specs.cell.Cell.{Cell}
use Rattle.doc_tree.specs.Table.{Contents, Table}
use Rattle.doc_tree.specs.declared.refusal.EditRefusal.{EditRefusal}
use Rattle.doc_tree.specs.declared.refusal.EditRefusal.TheVariants.{IdsSpent}
use Rattle.doc_tree.specs.limits.TheConstants.{MAX_NODE_NUMBERS}
use Rattle.edit_script.specs.Faults.{IfFault}
use Rattle.edit_script.specs.Script.{LinesLeft, at_start}
use Rattle.edit_script.specs.Undos.{Items, breaks, ends, item_count, items_left}
use Rattle.edit_script.specs.declared.command.Command.{Command}
use Rattle.edit_script.specs.declared.fault.ScriptError.{ScriptError}
use Rattle.edit_script.specs.declared.fault.ScriptError.TheVariants as script
use Rattle.edit_script.specs.declared.limits.TheConstants.{MAX_SCRIPT_BYTES}
use Rattle.edit_commands.specs.Commands.{IsEdited, command_refusal}
use Rattle.edit_commands.specs.Touched.{touched_by}
use Rattle.edit_commands.specs.declared.refusal.ApplyError.{ApplyError}
use Rattle.edit_commands.specs.declared.refusal.ApplyError.TheVariants as apply
use Rattle.edit_command_laws.specs.OneEdit.{OneEdit}
use Rattle.edit_iso_laws.specs.CommandsMove.{DoneInTurn}
use Rattle.sch_undo.specs.Costs.{cost_of}
use Rattle.sch_undo.specs.Dirty.{dirty_units}
use Rattle.sch_undo.specs.Running.{to_run}
use Rattle.sch_compiled.specs.declared.plan.Plan.{Plan}
use Rattle.sch_undo.specs.Pairs.{pair_cap_for}
use Rattle.sch_undo.specs.Standing.{Standing, seen_by}
use Rattle.sch_undo.specs.State.{shows, state_text}
use Rattle.sch_undo.specs.shown.Shown.{Shown}
use Rattle.sch_undo.specs.entry.Entry.{Entry}
use Rattle.sch_undo.specs.InTurn.{TouchesInTurn}
use Rattle.sch_undo.specs.Remembered.{LeavesUndo, RefusesEdit, RefusesUndo, Remembered, Remembers, RunsDirty as LeavesToRun, Undone}
use Rattle.sch_undo.specs.declared.error.UndoError.{UndoError}
use Rattle.sch_undo.specs.declared.error.UndoError.TheVariants as undo
use Rattle.sch_words.specs.declared.status.Status.TheVariants as status
use Rattle.sch_stops.specs.EditLines.{edit_line, no_history_line, refused_line, undo_line}
use Rattle.sch_stops.specs.Stops.{counted_if, ends_with, of_script, stopped_by}
use Rattle.sch_stops.specs.declared.refusal.ScriptRefusal.TheVariants as refusal
use Rattle.sch_stops.specs.declared.stop.Stop.{Stop}
use Rattle.sch_stops.specs.declared.stop.Stop.TheVariants.{ScriptRefused, Memory}
use Rattle.sch_loading.proofs.PartLemmas.{by_cause}
use Rattle.sch_commands.specs.Behaviours.{BeginsStates, States, StatesCost}
use Rattle.sch_commands.specs.Following as following
use Rattle.sch_commands.specs.Following.{Earlier, Follows, IsTakenBack, earlier_of, items_of, then_shown}
use Rattle.sch_commands.specs.Output.{ended, in_front}
use Rattle.sch_commands.specs.Written.{AppendsFront, Fronted}
use Rattle.sch_commands.specs.Steps.{EditsCost, at_the_end, of_edited, of_lacking, of_none, of_refused, of_undone}
use Rattle.sch_commands.specs.Telling.{Telling, by_plan, edit_cost, under}
use Rattle.sch_commands.specs.declared.undoing.Item.{Item}
use Rattle.sch_commands.specs.declared.undoing.Item.TheVariants as item
use Rattle.sch_commands.specs.declared.undoing.Undoer.{Undoer}
use Rattle.sch_commands.specs.Carried.{Concludes, Shows}
use Rattle.sch_commands.specs.inner.Counts.{CountsAlong, RoseFor}
use Rattle.sch_commands.specs.inner.Followers.{IsUndone}
use Rattle.sch_commands.specs.inner.Sessions.{IsEvaluated, next_cost}
use Rattle.sch_commands.specs.inner.Undoing.{Beginning, Cost, CountsAhead, Does, Ending, Goes, IsNotUndone, IsReady, Keeps, Leads, Moved, MovedTo, MovesTo, Place, Rests, ahead_of, before_item, place_at, place_in}
use Rattle.sch_commands.specs.inner.Ways.{Way, entries_of, entry_of}
use Rattle.sch_commands.specs.inner.Writing.{IsOfWriting, WroteText}
use Rattle.sch_commands.proofs.EndLemmas.{concludes_behind, memory_writing, on_ok}
use Rattle.sch_commands.proofs.FollowLemmas.{refusal_under}
use Rattle.sch_commands.proofs.ItemLemmas.{few_items, fewer, items_some}
use Rattle.sch_commands.proofs.StepLemmas.{along_as, rose_is, rose_then}
use Rattle.sch_commands.proofs.WayLemmas.{way-cost, way-edited, way-lacking, way-none, way-refused, way-undone}

-- Places

-- two places are the same
places-same : (p q : Place) → p.telling ≡ q.telling → p.tree ≡ q.tree → p.undos ≡ q.undos → p.backs ≡ q.backs → p.items ≡ q.items → p.number ≡ q.number → p.seen ≡ q.seen → p ≡ q
places-same p q tellings trees depths kept items numbers states =
    ap (λ (t : Telling). record { telling = t; tree = p.tree; undos = p.undos; backs = p.backs; items = p.items; number = p.number; seen = p.seen }) tellings
    ∙ ap (λ (t : Table). record { telling = q.telling; tree = t; undos = p.undos; backs = p.backs; items = p.items; number = p.number; seen = p.seen }) trees
    ∙ ap (λ (n : ℕ). record { telling = q.telling; tree = q.tree; undos = n; backs = p.backs; items = p.items; number = p.number; seen = p.seen }) depths
    ∙ ap (λ (l : List Earlier). record { telling = q.telling; tree = q.tree; undos = q.undos; backs = l; items = p.items; number = p.number; seen = p.seen }) kept
    ∙ ap (λ (i : Items). record { telling = q.telling; tree = q.tree; undos = q.undos; backs = q.backs; items = i; number = p.number; seen = p.seen }) items
    ∙ ap (λ (n : ℕ). record { telling = q.telling; tree = q.tree; undos = q.undos; backs = q.backs; items = q.items; number = n; seen = p.seen }) numbers
    ∙ ap (λ (s : Shown). record { telling = q.telling; tree = q.tree; undos = q.undos; backs = q.backs; items = q.items; number = q.number; seen = s }) states

-- behind an edit, behind an undo, and behind what is not done
abbrev edited-at : Place → Command → Table → Place
edited-at at command U = record {
  telling = at.telling;
  tree = U;
  undos = at.undos;
  backs = take at.undos (earlier_of at.tree command ∷ at.backs);
  items = at.items;
  number = at.number + 1;
  seen = then_shown at.seen (at.telling.shows U);
}

abbrev undone-at : Place → List Earlier → Table → Place
undone-at at backs U = record {
  telling = at.telling;
  tree = U;
  undos = at.undos;
  backs = backs;
  items = at.items;
  number = at.number + 1;
  seen = then_shown at.seen (at.telling.shows U);
}

abbrev passed-at : Place → Place
passed-at at = record at { number = at.number + 1 }

cost-is : (at : Place) (a b : ℕ) → a ≡ b → Cost at a → Cost at b
cost-is at a b is = subst (Cost at) is

-- what costs nothing
cost-none : (at : Place) (rest : ℕ) → Cost at rest → Cost at (0 + rest)
cost-none at rest costs =
    let same : rest ≡ 0 + rest = omega arith in
    cost-is at rest (0 + rest) same costs

-- an edit leads on
leads-edited : (at : Place) (command : Command) (U : Table) → command_refusal (under at.telling at.tree) command ≡ None → IsEdited at.tree command U →
    Leads (before_item (item.Edit command) at) (edited-at at command U) (edit_line at.number ++ at.telling.text U) (edit_cost at.telling at.tree command U)
leads-edited at command U free makes = record {
  ends = λ output follows. following.edits at.tree U at.backs at.number at.seen command at.items output free makes follows;
  begins = λ more begins. following.edited at.tree U at.backs at.number command at.items more free makes begins;
  costs = λ rest costs. of_edited at.tree U at.backs command at.items rest free makes costs;
}

-- so does a refused command, which costs nothing
leads-refused : (at : Place) (command : Command) (reason : EditRefusal) → command_refusal (under at.telling at.tree) command ≡ Some reason →
    Leads (before_item (item.Edit command) at) (passed-at at) (refused_line at.number reason) 0
leads-refused at command reason some = record {
  ends = λ output follows. following.refuses at.tree at.backs at.number at.seen command reason at.items output some follows;
  begins = λ more begins. following.refused at.tree at.backs at.number command reason at.items more some begins;
  costs = λ rest costs. cost-none (before_item (item.Edit command) at) rest (of_refused at.tree at.backs command reason at.items rest some costs);
}

-- where a place is with these edits that can be undone
abbrev with-backs : Place → List Earlier → Place
with-backs at backs = record at { backs = backs }

-- an undo leads on
leads-undone : (at : Place) (back : Earlier) (backs : List Earlier) (U : Table) (touched : Cell → Bool) → IsTakenBack at.telling at.tree back U → TouchesInTurn at.tree back.commands U touched →
    Leads (before_item item.Undo (with-backs at (back ∷ backs))) (undone-at at backs U) (undo_line at.number ++ at.telling.text U) (at.telling.cost_anew at.tree touched U)
leads-undone at back backs U touched taken cells = record {
  ends = λ output follows. following.undoes at.tree U back backs at.number at.seen at.items output taken follows;
  begins = λ more begins. following.undone at.tree U back backs at.number at.items more taken begins;
  costs = λ rest costs. of_undone at.tree U back backs touched at.items rest taken cells costs;
}

-- so does one for which too few numbers are left
leads-lacking : (at : Place) (back : Earlier) (backs : List Earlier) → MAX_NODE_NUMBERS < length at.tree + back.numbers →
    Leads (before_item item.Undo (with-backs at (back ∷ backs))) (passed-at (with-backs at (back ∷ backs))) (refused_line at.number IdsSpent) 0
leads-lacking at back backs less = record {
  ends = λ output follows. following.lacks_numbers at.tree back backs at.number at.seen at.items output less follows;
  begins = λ more begins. following.lacking_numbers at.tree back backs at.number at.items more less begins;
  costs = λ rest costs. cost-none (before_item item.Undo (with-backs at (back ∷ backs))) rest (of_lacking at.tree back backs at.items rest less costs);
}

-- and one where no edit is kept
leads-none : (at : Place) → Leads (before_item item.Undo (with-backs at [])) (passed-at (with-backs at [])) (no_history_line at.number) 0
leads-none at = record {
  ends = λ output follows. following.has_no_history at.tree at.number at.seen at.items output follows;
  begins = λ more begins. following.without_history at.tree at.number at.items more begins;
  costs = λ rest costs. cost-none (before_item item.Undo (with-backs at [])) rest (of_none at.tree at.items rest costs);
}

-- What comes of an item

-- the later place is where the history stands
pub record Stands (later : Place) (at : Undoer) : Type 0 where
  pub backs : List Earlier
  pub keeps : Keeps at.history backs
  pub is : place_at at backs ≡ later

-- a text that was written leads on, or a front of it was
moves-by : (earlier later : Place) (at : Undoer) (old new : SinkLog) (before after : ℕ) (text : List ℕ) (cost : ℕ) (result : Result (Unit {0}) Stop) →
    Leads earlier later text cost → Goes later → WroteText {A = Unit {0}} old new text result → OnOk result (Stands later at) →
    OnOk result ((first start : ℕ) → RoseFor first start before earlier.seen → RoseFor (first + cost) start after later.seen) → MovesTo earlier at old new before after result
moves-by earlier later at old new before after text cost (Ok done) leads goes wrote stands rose = record {
  backs = stands.backs;
  keeps = stands.keeps;
  goes = subst Goes (sym stands.is) goes;
  moved = subst (λ (p : Place). Moved earlier p old new before after) (sym stands.is) (record { text = text; cost = cost; leads = leads; out = wrote.told; rose = rose });
}
moves-by earlier later at old new before after text cost (Err stop) leads goes wrote stands rose =
    by_cause (λ _. ⊥) (λ _. ⊥) (λ _. ⊥) (λ _. ⊥) (AppendsFront old.written new.written text) (Fronted (Beginning earlier) (Appends old.written new.written))
    (AppendsFront old.written new.written text) (Fronted (Beginning earlier) (Appends old.written new.written)) (λ stop no. no) (λ name no. no) front front stop wrote.told
  where
    front : AppendsFront old.written new.written text → Fronted (Beginning earlier) (Appends old.written new.written)
    front appended = record {
      text = text ++ [];
      comes = leads.begins [] (following.nothing_yet later.tree later.backs later.number later.items);
      done = appended.0;
      left = appended.1;
      is_front = append-nil text ∙ appended.2;
      out = appended.3;
    }

-- nothing was written, for want of memory
moves-nowhere : (earlier : Place) (at : Undoer) (old new : SinkLog) (before after : ℕ) (result : Result (Unit {0}) Stop) → result ≡ Err Memory → new ≡ old → MovesTo earlier at old new before after result
moves-nowhere earlier at old new before after result is same =
    subst (MovesTo earlier at old new before after) (sym is)
    (record {
      text = [];
      comes = following.nothing_yet earlier.tree earlier.backs earlier.number earlier.items;
      done = [];
      left = [];
      is_front = refl;
      out = subst (λ (log : SinkLog). Appends old.written log.written []) (sym same) (Appends-nil old.written);
    })

memory-faults : (old new : SinkLog) (result : Result (Unit {0}) Stop) → result ≡ Err Memory → new ≡ old → new.faults ≡ counted_if (ends_with status.WriteFault result) old.faults
memory-faults old new result is same =
    subst (λ (r : Result (Unit {0}) Stop). new.faults ≡ counted_if (ends_with status.WriteFault r) old.faults) (sym is) (ap (λ (log : SinkLog). log.faults) same)

-- what comes counts at most the visits of what is to come
ahead-by : (earlier later : Place) (text : List ℕ) (cost before after : ℕ) → Leads earlier later text cost → Goes later → after ≤ before + cost → CountsAhead earlier before after
ahead-by earlier later text cost before after leads goes at_most =
    let more = way-cost later.telling later.undos later.tree later.backs later.items goes in
    (cost + more.0, leads.costs more.0 more.1, omega (arith, at_most))

pub ahead-none : (at : Place) (count : ℕ) → Goes at → CountsAhead at count count
ahead-none at count goes = let more = way-cost at.telling at.undos at.tree at.backs at.items goes in (more.0, more.1, omega arith)

-- the count stays where nothing is evaluated
rose-none : (before first start : ℕ) (seen : Shown) → RoseFor first start before seen → RoseFor (first + 0) start before seen
rose-none before first start seen was =
    let same : first ≡ first + 0 = omega arith in
    rose_is first (first + 0) start before seen same was

-- the history is the one that was made, and its state was written behind the one of a number
pub record Writes (made : Remembered) (number : ℕ) (seen : Shown) (script : LinesLeft) (at : Undoer) (result : Result (Unit {0}) Stop) : Type 0 where
  pub tree : at.history.session.tree ≡ made.session.tree
  pub plan : at.history.session.plan ≡ made.session.plan
  pub entries : at.history.entries ≡ made.entries
  pub depth : at.history.depth ≡ made.depth
  pub script_is : at.script ≡ script
  pub number_is : at.number ≡ number
  pub seen_is : OnOk result (at.seen ≡ then_shown seen (shows made.session.plan made.session.tree.nodes))

-- one that is as it was but for the number
pub record Stays (before at : Undoer) : Type 0 where
  pub history : at.history ≡ before.history
  pub script_is : at.script ≡ before.script
  pub number_is : at.number ≡ before.number + 1
  pub seen_is : at.seen ≡ before.seen

stays-there : (before at : Undoer) (backs : List Earlier) → Keeps before.history backs → Stays before at → Stands (passed-at (place_at before backs)) at
stays-there before at backs keeps stays = record {
  backs = backs;
  keeps = ap (λ (h : Remembered). h.entries) stays.history ∙ keeps;
  is = places-same (place_at at backs) (passed-at (place_at before backs)) (ap (λ (h : Remembered). by_plan h.session.plan) stays.history)
      (ap (λ (h : Remembered). h.session.tree.nodes) stays.history) (ap (λ (h : Remembered). h.depth) stays.history) refl (ap items_left stays.script_is) stays.number_is stays.seen_is;
}

-- the state was written of the document behind what was done
writes-there : (before : Undoer) (made : Remembered) (at : Undoer) (backs : List Earlier) (result : Result (Unit {0}) Stop) → made.session.plan ≡ before.history.session.plan →
    made.depth ≡ before.history.depth → Keeps made backs → Writes made (before.number + 1) before.seen before.script at result →
    OnOk result (Stands (undone-at (place_in before.history [] (items_left before.script) before.number before.seen) backs made.session.tree.nodes) at)
writes-there before made at backs (Err stop) plans depths keeps writes = tt
writes-there before made at backs (Ok done) plans depths keeps writes = record {
  backs = backs;
  keeps = writes.entries ∙ keeps;
  is = places-same (place_at at backs) (undone-at (place_in before.history [] (items_left before.script) before.number before.seen) backs made.session.tree.nodes)
      (ap by_plan (writes.plan ∙ plans)) (ap (λ (tree : Contents). tree.nodes) writes.tree) (writes.depth ∙ depths) refl (ap items_left writes.script_is) writes.number_is
      (writes.seen_is ∙ ap (λ (p : Plan). then_shown before.seen (shows p made.session.tree.nodes)) plans);
}

-- and its visits are counted
rose-there : (plan : Plan) (made : Standing) (amount cost : ℕ) (before after : ℕ) (seen : Shown) (result : Result (Unit {0}) Stop) → made.plan ≡ plan → amount ≡ cost →
    OnOk result (RoseFor amount before after (shows made.plan made.tree.nodes)) →
    OnOk result ((first start : ℕ) → RoseFor first start before seen → RoseFor (first + cost) start after (then_shown seen (shows plan made.tree.nodes)))
rose-there plan made amount cost before after seen (Err stop) plans is rose = tt
rose-there plan made amount cost before after seen (Ok done) plans is rose = λ first start was.
    rose_then first cost start before after seen (shows plan made.tree.nodes) (then_shown seen (shows plan made.tree.nodes)) refl
    (rose_is amount cost before after (shows plan made.tree.nodes) is (subst (λ (p : Plan). RoseFor amount before after (shows p made.tree.nodes)) plans rose)) was

-- what the document tells by its plan
text-there : (plan : Plan) (made : Standing) (line : List ℕ) (old new : SinkLog) (result : Result (Unit {0}) Stop) → made.plan ≡ plan →
    WroteText {A = Unit {0}} old new (line ++ state_text made.plan made.tree.nodes) result → WroteText {A = Unit {0}} old new (line ++ state_text plan made.tree.nodes) result
text-there plan made line old new result plans = subst (λ (p : Plan). WroteText {A = Unit {0}} old new (line ++ state_text p made.tree.nodes) result) plans

-- the visits of what is left to be run
left-cost : (plan : Plan) (T : Table) (made : Standing) (touched : Cell → Bool) → made.plan ≡ plan →
    to_run plan made.tree.nodes (seen_by made) ≡ dirty_units plan T made.tree.nodes touched → next_cost made ≡ (by_plan plan).cost_anew T touched made.tree.nodes
left-cost plan T made touched plans left =
    ap (λ (p : Plan). cost_of p made.tree.nodes (to_run p made.tree.nodes (seen_by made))) plans ∙ ap (cost_of plan made.tree.nodes) left

-- what comes of an accepted command
pub does-edited : (before : Undoer) (made : Remembered) (at : Undoer) (command : Command) (old new : SinkLog) (start after : ℕ) (result : Result (Unit {0}) Stop) → OneEdit →
    before.history.session.tree.pair_cap ≡ pair_cap_for before.history.session.plan →
    command_refusal before.history.session.tree command ≡ None → IsEdited before.history.session.tree.nodes command made.session.tree.nodes →
    made.session.plan ≡ before.history.session.plan → made.depth ≡ before.history.depth → Remembers before.history command made →
    to_run before.history.session.plan made.session.tree.nodes (seen_by made.session) ≡
    dirty_units before.history.session.plan before.history.session.tree.nodes made.session.tree.nodes (touched_by before.history.session.tree.nodes command) →
    Writes made (before.number + 1) before.seen before.script at result →
    WroteText {A = Unit {0}} old new (edit_line before.number ++ state_text made.session.plan made.session.tree.nodes) result →
    OnOk result (RoseFor (next_cost made.session) start after (shows made.session.plan made.session.tree.nodes)) → after ≤ start + next_cost made.session →
    (backs : List Earlier) → Keeps before.history backs → Goes (before_item (item.Edit command) (place_at before backs)) →
    MovesTo (before_item (item.Edit command) (place_at before backs)) at old new start after result × CountsAhead (before_item (item.Edit command) (place_at before backs)) start after
does-edited before made at command old new start after result one_edit cap none makes plans depths remembers left writes wrote rose at_most backs keeps goes =
    let here = place_at before backs in
    let plan = before.history.session.plan in
    let T = before.history.session.tree.nodes in
    let U = made.session.tree.nodes in
    let later = edited-at here command U in
    let free : command_refusal (under (by_plan plan) T) command ≡ None = refusal_under (by_plan plan) before.history.session.tree command cap ∙ none in
    let leads = leads-edited here command U free makes in
    let on : Goes later = way-edited (by_plan plan) before.history.depth one_edit T U backs command (items_left before.script) free makes goes in
    let cost : next_cost made.session ≡ edit_cost (by_plan plan) T command U = left-cost plan T made.session (touched_by T command) plans left in
    let entry : remembers.entry ≡ entry_of (earlier_of T command) =
    ap (λ (cs : List Command). record { commands = cs; numbers = remembers.entry.numbers }) remembers.commands
    ∙ ap (λ (n : ℕ). record { commands = (earlier_of T command).commands; numbers = n }) remembers.numbers in
    let kept : Keeps made later.backs =
    remembers.entries ∙ ap (λ (e : Entry). take before.history.depth (e ∷ before.history.entries)) entry
    ∙ ap (λ (es : List Entry). take before.history.depth (entry_of (earlier_of T command) ∷ es)) keeps
    ∙ take-map entry_of before.history.depth (earlier_of T command ∷ backs) in (
      moves-by (before_item (item.Edit command) here) later at old new start after (edit_line before.number ++ state_text plan U) (edit_cost (by_plan plan) T command U) result leads on
          (text-there plan made.session (edit_line before.number) old new result plans wrote) (writes-there before made at later.backs result plans depths kept writes)
          (rose-there plan made.session (next_cost made.session) (edit_cost (by_plan plan) T command U) start after before.seen result plans cost rose),
      ahead-by (before_item (item.Edit command) here) later (edit_line before.number ++ state_text plan U) (edit_cost (by_plan plan) T command U) start after leads on (omega (arith, at_most, cost)),
    )

-- and of one that is not done
pub does-not-edit : (before at : Undoer) (command : Command) (error : ApplyError) (old new : SinkLog) (count : ℕ) (result : Result (Unit {0}) Stop) →
    before.history.session.tree.pair_cap ≡ pair_cap_for before.history.session.plan →
    RefusesEdit before.history command error → IsUndone before.number error old new result → Stays before at →
    (backs : List Earlier) → Keeps before.history backs → Goes (before_item (item.Edit command) (place_at before backs)) →
    MovesTo (before_item (item.Edit command) (place_at before backs)) at old new count count result × CountsAhead (before_item (item.Edit command) (place_at before backs)) count count
does-not-edit before at command (apply.Refused reason) old new count result cap some undone stays backs keeps goes =
    let here = place_at before backs in
    let plan = before.history.session.plan in
    let because : command_refusal (under (by_plan plan) before.history.session.tree.nodes) command ≡ Some reason = refusal_under (by_plan plan) before.history.session.tree command cap ∙ some in
    let leads = leads-refused here command reason because in
    let on : Goes (passed-at here) = way-refused (by_plan plan) before.history.depth before.history.session.tree.nodes backs command reason (items_left before.script) because goes in (
      moves-by (before_item (item.Edit command) here) (passed-at here) at old new count count (refused_line before.number reason) 0 result leads on undone.0
          (on_ok (Stands (passed-at here) at) result (stays-there before at backs keeps stays))
          (on_ok ((first start : ℕ) → RoseFor first start count before.seen → RoseFor (first + 0) start count before.seen) result (λ first start was. rose-none count first start before.seen was)),
      ahead-none (before_item (item.Edit command) here) count goes,
    )
does-not-edit before at command apply.Memory old new count result cap some undone stays backs keeps goes = (
  moves-nowhere (before_item (item.Edit command) (place_at before backs)) at old new count count result undone.0 undone.1,
  ahead-none (before_item (item.Edit command) (place_at before backs)) count goes,
)

-- Undos

-- the newest entry is that of the newest edit
none-newest : (entries others : List Entry) (entry : Entry) → entries ≡ [] → entries ≡ entry ∷ others → ⊥
none-newest entries others entry none is = let same : [] ≡ entry ∷ others = sym none ∙ is in cc

newest-same : (back : Earlier) (backs : List Earlier) (entries others : List Entry) (entry : Entry) → entries ≡ entries_of (back ∷ backs) → entries ≡ entry ∷ others →
    (entry ≡ entry_of back) × (others ≡ entries_of backs)
newest-same back backs entries others entry keeps is =
    let same : entry ∷ others ≡ entry_of back ∷ entries_of backs = sym is ∙ keeps in
    let first : entry ≡ entry_of back = cc in
    let rest : others ≡ entries_of backs = cc in
    (first, rest)

-- what comes of an undo that is done
pub does-undone : (before : Undoer) (made : Remembered) (at : Undoer) (old new : SinkLog) (start after : ℕ) (result : Result (Unit {0}) Stop) → OneEdit →
    made.session.plan ≡ before.history.session.plan → made.depth ≡ before.history.depth → Undone before.history made → LeavesToRun before.history made → IsEvaluated before.history.session →
    Writes made (before.number + 1) before.seen before.script at result →
    WroteText {A = Unit {0}} old new (undo_line before.number ++ state_text made.session.plan made.session.tree.nodes) result →
    OnOk result (RoseFor (next_cost made.session) start after (shows made.session.plan made.session.tree.nodes)) → after ≤ start + next_cost made.session →
    (backs : List Earlier) → Keeps before.history backs → Goes (before_item item.Undo (place_at before backs)) →
    MovesTo (before_item item.Undo (place_at before backs)) at old new start after result × CountsAhead (before_item item.Undo (place_at before backs)) start after
does-undone before made at old new start after result one_edit plans depths undone runs fresh writes wrote rose at_most [] keeps goes =
    absurd (none-newest before.history.entries undone.newest.others undone.newest.entry keeps undone.newest.is)
does-undone before made at old new start after result one_edit plans depths undone runs fresh writes wrote rose at_most (back ∷ backs) keeps goes =
    let here = place_at before (back ∷ backs) in
    let plan = before.history.session.plan in
    let T = before.history.session.tree.nodes in
    let U = made.session.tree.nodes in
    let newest = newest-same back backs before.history.entries undone.newest.others undone.newest.entry keeps undone.newest.is in
    let touching = newest-same back backs before.history.entries runs.others runs.entry keeps runs.is in
    let done : DoneInTurn before.history.session.tree back.commands made.session.tree =
    subst (λ (e : Entry). DoneInTurn before.history.session.tree e.commands made.session.tree) newest.0 undone.done in
    let room : length T + back.numbers ≤ MAX_NODE_NUMBERS = subst (λ (e : Entry). length T + e.numbers ≤ MAX_NODE_NUMBERS) newest.0 undone.newest.numbers.0 in
    let cells : TouchesInTurn T back.commands U runs.touched = subst (λ (e : Entry). TouchesInTurn T e.commands U runs.touched) touching.0 runs.in_turn in
    let on = way-undone (by_plan plan) before.history.depth one_edit T before.history.session.tree made.session.tree back backs (items_left before.script) refl room done goes in
    let later = undone-at here backs U in
    let leads = leads-undone here back backs U runs.touched on.0 cells in
    let amount = (by_plan plan).cost_anew T runs.touched U in
    let cost : next_cost made.session ≡ amount = left-cost plan T made.session runs.touched plans (runs.run fresh) in (
      moves-by (before_item item.Undo here) later at old new start after (undo_line before.number ++ state_text plan U) amount result leads on.1
          (text-there plan made.session (undo_line before.number) old new result plans wrote) (writes-there before made at backs result plans depths (undone.dropped ∙ newest.1) writes)
          (rose-there plan made.session (next_cost made.session) amount start after before.seen result plans cost rose),
      ahead-by (before_item item.Undo here) later (undo_line before.number ++ state_text plan U) amount start after leads on.1 (omega (arith, at_most, cost)),
    )

-- one that is not done leaves all as it was
pub does-not-undo : (before at : Undoer) (error : UndoError) (old new : SinkLog) (count : ℕ) (result : Result (Unit {0}) Stop) →
    RefusesUndo before.history error → IsNotUndone before.number error old new result → LeavesUndo before.history at.history error →
    at.script ≡ before.script → at.number ≡ before.number + 1 → at.seen ≡ before.seen →
    (backs : List Earlier) → Keeps before.history backs → Goes (before_item item.Undo (place_at before backs)) →
    MovesTo (before_item item.Undo (place_at before backs)) at old new count count result × CountsAhead (before_item item.Undo (place_at before backs)) count count
does-not-undo before at undo.Memory old new count result refuses undone left script number seen backs keeps goes = (
  moves-nowhere (before_item item.Undo (place_at before backs)) at old new count count result undone.0 undone.1,
  ahead-none (before_item item.Undo (place_at before backs)) count goes,
)
does-not-undo before at undo.NoHistory old new count result refuses undone left script number seen (back ∷ backs) keeps goes =
    absurd (none-newest before.history.entries (entries_of backs) (entry_of back) refuses keeps)
does-not-undo before at undo.NoHistory old new count result refuses undone left script number seen [] keeps goes =
    let here = place_at before [] in
    let on : Goes (passed-at here) = way-none (by_plan before.history.session.plan) before.history.depth before.history.session.tree.nodes (items_left before.script) goes in (
      moves-by (before_item item.Undo here) (passed-at here) at old new count count (no_history_line before.number) 0 result (leads-none here) on undone.0
          (on_ok (Stands (passed-at here) at) result (stays-there before at [] keeps (record { history = left; script_is = script; number_is = number; seen_is = seen })))
          (on_ok ((first start : ℕ) → RoseFor first start count before.seen → RoseFor (first + 0) start count before.seen) result (λ first start was. rose-none count first start before.seen was)),
      ahead-none (before_item item.Undo here) count goes,
    )
does-not-undo before at undo.IdsSpent old new count result refuses undone left script number seen [] keeps goes =
    absurd (none-newest before.history.entries refuses.others refuses.entry keeps refuses.is)
does-not-undo before at undo.IdsSpent old new count result refuses undone left script number seen (back ∷ backs) keeps goes =
    let here = place_at before (back ∷ backs) in
    let T = before.history.session.tree.nodes in
    let newest = newest-same back backs before.history.entries refuses.others refuses.entry keeps refuses.is in
    let less : MAX_NODE_NUMBERS < length T + back.numbers = subst (λ (e : Entry). MAX_NODE_NUMBERS < length T + e.numbers) newest.0 refuses.numbers in
    let on : Goes (passed-at here) = way-lacking (by_plan before.history.session.plan) before.history.depth T back backs (items_left before.script) less goes in (
      moves-by (before_item item.Undo here) (passed-at here) at old new count count (refused_line before.number IdsSpent) 0 result (leads-lacking here back backs less) on undone.0
          (on_ok (Stands (passed-at here) at) result (stays-there before at (back ∷ backs) keeps (record { history = left; script_is = script; number_is = number; seen_is = seen })))
          (on_ok ((first start : ℕ) → RoseFor first start count before.seen → RoseFor (first + 0) start count before.seen) result (λ first start was. rose-none count first start before.seen was)),
      ahead-none (before_item item.Undo here) count goes,
    )

-- What is written where nothing is done

pub not-edited-writing : (number : ℕ) (error : ApplyError) (old new : SinkLog) (result : Result (Unit {0}) Stop) → IsUndone number error old new result → IfErr result IsOfWriting
not-edited-writing number (apply.Refused reason) old new result undone = undone.0.writing
not-edited-writing number apply.Memory old new result undone = subst (λ (r : Result (Unit {0}) Stop). IfErr r IsOfWriting) (sym undone.0) memory_writing

pub not-edited-faults : (number : ℕ) (error : ApplyError) (old new : SinkLog) (result : Result (Unit {0}) Stop) → IsUndone number error old new result →
    new.faults ≡ counted_if (ends_with status.WriteFault result) old.faults
not-edited-faults number (apply.Refused reason) old new result undone = undone.0.faults
not-edited-faults number apply.Memory old new result undone = memory-faults old new result undone.0 undone.1

pub not-undone-writing : (number : ℕ) (error : UndoError) (old new : SinkLog) (result : Result (Unit {0}) Stop) → IsNotUndone number error old new result → IfErr result IsOfWriting
not-undone-writing number undo.NoHistory old new result undone = undone.0.writing
not-undone-writing number undo.IdsSpent old new result undone = undone.0.writing
not-undone-writing number undo.Memory old new result undone = subst (λ (r : Result (Unit {0}) Stop). IfErr r IsOfWriting) (sym undone.0) memory_writing

pub not-undone-faults : (number : ℕ) (error : UndoError) (old new : SinkLog) (result : Result (Unit {0}) Stop) → IsNotUndone number error old new result →
    new.faults ≡ counted_if (ends_with status.WriteFault result) old.faults
not-undone-faults number undo.NoHistory old new result undone = undone.0.faults
not-undone-faults number undo.IdsSpent old new result undone = undone.0.faults
not-undone-faults number undo.Memory old new result undone = memory-faults old new result undone.0 undone.1

-- What is ready

-- what comes behind an item is ready where the document behind it was evaluated
pub ready-behind : (before at : Undoer) (next : Item) → IsReady before (ahead_of next (items_left before.script)) → at.history.session.tree.pair_cap ≡ before.history.session.tree.pair_cap →
    at.history.session.plan ≡ before.history.session.plan → at.script ≡ before.script → at.number ≡ before.number + 1 → IsEvaluated at.history.session → IsReady at (items_left at.script)
ready-behind before at next ready caps plans scripts numbers fresh = record {
  cap = caps ∙ ready.cap ∙ ap pair_cap_for (sym plans);
  fresh = fresh;
  unfaulted = ap (λ (left : LinesLeft). left.faulted) scripts ∙ ready.unfaulted;
  few =
      let same : item_count (items_left at.script) ≡ item_count (items_left before.script) = ap (λ (left : LinesLeft). item_count (items_left left)) scripts in
      omega (arith, ready.few, numbers, same, fewer next (ahead_of next (items_left before.script)) (items_left before.script) refl);
}

-- where nothing was done, or the run ends
pub ready-still : (before at : Undoer) (next : Item) → IsReady before (ahead_of next (items_left before.script)) → at.history ≡ before.history → at.script ≡ before.script → at.number ≡ before.number + 1 →
    IsReady at (items_left at.script)
ready-still before at next ready histories scripts numbers =
    ready-behind before at next ready (ap (λ (h : Remembered). h.session.tree.pair_cap) histories) (ap (λ (h : Remembered). h.session.plan) histories) scripts numbers
    (subst (λ (h : Remembered). IsEvaluated h.session) (sym histories) ready.fresh)

pub ready-not-undone : (before at : Undoer) (error : UndoError) (old new : SinkLog) (result : Result (Unit {0}) Stop) → IsReady before (ahead_of item.Undo (items_left before.script)) →
    IsNotUndone before.number error old new result → LeavesUndo before.history at.history error → at.script ≡ before.script → at.number ≡ before.number + 1 → OnOk result (IsReady at (items_left at.script))
ready-not-undone before at undo.NoHistory old new result ready undone left scripts numbers = on_ok (IsReady at (items_left at.script)) result (ready-still before at item.Undo ready left scripts numbers)
ready-not-undone before at undo.IdsSpent old new result ready undone left scripts numbers = on_ok (IsReady at (items_left at.script)) result (ready-still before at item.Undo ready left scripts numbers)
ready-not-undone before at undo.Memory old new result ready undone left scripts numbers =
    subst (λ (r : Result (Unit {0}) Stop). OnOk r (IsReady at (items_left at.script))) (sym undone.0) tt

-- the next item is ready in front of what follows
pub ready-next : (at : Undoer) (left : LinesLeft) (next : Item) → IsReady at (items_left at.script) → items_left at.script ≡ ahead_of next (items_left left) → left.faulted ≡ false →
    IsReady (record at { script = left }) (ahead_of next (items_left left))
ready-next at left next ready is unfaulted = record {
  cap = ready.cap;
  fresh = ready.fresh;
  unfaulted = unfaulted;
  few = subst (λ (i : Items). at.number + item_count i < 2 ^ 64) is ready.few;
}

-- The items one after another

-- no item was done yet
pub not-moved : (at : Undoer) (log : SinkLog) (count : ℕ) (backs : List Earlier) → Keeps at.history backs → Goes (place_at at backs) → MovedTo (place_at at backs) at log log count count
not-moved at log count backs keeps goes = record {
  backs = backs;
  keeps = keeps;
  goes = goes;
  moved = record {
    text = [];
    cost = 0;
    leads = record { ends = λ output follows. follows; begins = λ more begins. begins; costs = λ rest costs. cost-none (place_at at backs) rest costs };
    out = Appends-nil log.written;
    rose = λ first start was. rose-none count first start at.seen was;
  };
}

-- an item more
moved-on : (a b c : Place) (old mid new : SinkLog) (before so_far after : ℕ) → Moved a b old mid before so_far → Moved b c mid new so_far after → Moved a c old new before after
moved-on a b c old mid new before so_far after first next = record {
  text = first.text ++ next.text;
  cost = first.cost + next.cost;
  leads = record {
    ends = λ output follows. subst (λ (bytes : List ℕ). Ending a (record { out = bytes; err = output.err; ends = output.ends })) (sym (append_assoc first.text next.text output.out))
        (first.leads.ends (in_front next.text output) (next.leads.ends output follows));
    begins = λ more begins. subst (Beginning a) (sym (append_assoc first.text next.text more)) (first.leads.begins (next.text ++ more) (next.leads.begins more begins));
    costs = λ rest costs.
        let same : first.cost + (next.cost + rest) ≡ (first.cost + next.cost) + rest = omega arith in
        cost-is a (first.cost + (next.cost + rest)) ((first.cost + next.cost) + rest) same (first.leads.costs (next.cost + rest) (next.leads.costs rest costs));
  };
  out = Appends-trans old.written mid.written new.written first.text next.text first.out next.out;
  rose = λ amount start was.
      let same : (amount + first.cost) + next.cost ≡ amount + (first.cost + next.cost) = omega arith in
      rose_is ((amount + first.cost) + next.cost) (amount + (first.cost + next.cost)) start after c.seen same (next.rose (amount + first.cost) start (first.rose amount start was));
}

-- one that the script gives next
pub item-moved : (start : Place) (at later : Undoer) (left : LinesLeft) (next : Item) (old mid new : SinkLog) (before so_far after : ℕ) → items_left at.script ≡ ahead_of next (items_left left) →
    MovedTo start at old mid before so_far → Does next (record at { script = left }) later mid new so_far after (Ok tt) → MovedTo start later old new before after
item-moved start at later left next old mid new before so_far after is come does =
    let here : Undoer = record at { script = left } in
    let same : place_at at come.backs ≡ before_item next (place_at here come.backs) = ap (λ (i : Items). place_in at.history come.backs i at.number at.seen) is in
    let moved : MovedTo (before_item next (place_at here come.backs)) later mid new so_far after = (does come.backs come.keeps (subst Goes same come.goes)).0 in
    record {
      backs = moved.backs;
      keeps = moved.keeps;
      goes = moved.goes;
      moved = moved-on start (place_at at come.backs) (place_at later moved.backs) old mid new before so_far after come.moved
          (subst (λ (p : Place). Moved p (place_at later moved.backs) mid new so_far after) (sym same) moved.moved);
    }

-- Ends

-- how the rest ends is how all ends
comes-to-conclude : (start later : Place) (old mid new : SinkLog) (before so_far : ℕ) → Moved start later old mid before so_far → (result : Result Shown Stop) →
    Concludes (Ending later) (λ _. ⊥) (Beginning later) (Appends mid.written new.written) result → Concludes (Ending start) (λ _. ⊥) (Beginning start) (Appends old.written new.written) result
comes-to-conclude start later old mid new before so_far moved = concludes_behind (Ending later) (Ending start) (Beginning later) (Beginning start) old.written mid.written new.written moved.text moved.out
    moved.leads.ends moved.leads.begins (moved.leads.begins [] (following.nothing_yet later.tree later.backs later.number later.items))

-- what counts at most the visits of what is to come
ahead-on : (start later : Place) (old mid : SinkLog) (before so_far after : ℕ) → Moved start later old mid before so_far → CountsAhead later so_far after → CountsAhead start before after
ahead-on start later old mid before so_far after moved ahead =
    let rose = moved.rose 0 before (record { at_most = omega arith; exactly = λ whole. omega arith }) in
    let counted : so_far ≤ before + (0 + moved.cost) = rose.at_most in
    let more : after ≤ so_far + ahead.0 = ahead.2 in
    (moved.cost + ahead.0, moved.leads.costs ahead.0 ahead.1, omega (arith, counted, more))

-- with what was counted before
counts-stopped : (start : Place) (before after : ℕ) (stop : Stop) → CountsAhead start before after → (first from : ℕ) → RoseFor first from before start.seen →
    CountsAlong (λ cost. (later : ℕ) × Cost start later × (cost ≡ first + later)) from after (Err stop)
counts-stopped start before after stop ahead first from was =
    let so_far : before ≤ from + first = was.at_most in
    let more : after ≤ before + ahead.0 = ahead.2 in
    (first + ahead.0, (ahead.0, ahead.1, refl), omega (arith, so_far, more))

-- the script comes to its end
pub rest-ends : (start : Place) (at : Undoer) (old new : SinkLog) (before after : ℕ) → MovedTo start at old new before after → items_left at.script ≡ ends → Rests start old new before after (Ok at.seen)
rest-ends start at old new before after come none =
    let later = place_at at come.backs in
    record {
      told = comes-to-conclude start later old new new before after come.moved (Ok at.seen) (record {
        output = ended [] at.seen;
        may_be = subst (λ (i : Items). Follows later.telling later.undos later.tree later.backs later.number later.seen i (ended [] at.seen)) (sym none)
            (following.comes_to_end later.tree later.backs later.number later.seen);
        ends_so = refl;
        err_is = refl;
        out = Appends-nil new.written;
      });
      counted = λ first from was.
          let costs : Cost later 0 = subst (λ (i : Items). EditsCost later.telling later.undos later.tree later.backs i 0) (sym none) (at_the_end later.tree later.backs) in
          let same : come.moved.cost + 0 ≡ come.moved.cost = omega arith in
          (first + come.moved.cost, (come.moved.cost, cost-is start (come.moved.cost + 0) come.moved.cost same (come.moved.leads.costs 0 costs), refl), come.moved.rose first from was);
    }

-- a script that has a fault is stopped there, and one that finds no memory
stopped-there : (at : Undoer) (later : Place) (log : SinkLog) (error : ScriptError) → later.items ≡ items_left at.script → IfFault (λ found. items_left at.script ≡ breaks found) error →
    Concludes (Ending later) (λ _. ⊥) (Beginning later) (Appends log.written log.written) (Err (of_script error))
stopped-there at later log (script.Fault fault) same found = record {
  output = stopped_by (ScriptRefused (refusal.Faulted fault));
  may_be = subst (λ (i : Items). Follows later.telling later.undos later.tree later.backs later.number later.seen i (stopped_by (ScriptRefused (refusal.Faulted fault)))) (sym (same ∙ found))
      (following.stops_at later.tree later.backs later.number later.seen fault);
  ends_so = refl;
  err_is = refl;
  out = Appends-nil log.written;
}
stopped-there at later log script.Memory same found = inl (Appends-nil log.written)

-- it has a fault, or memory runs out
pub rest-stops : (start : Place) (at : Undoer) (old new : SinkLog) (before after : ℕ) → MovedTo start at old new before after → (error : ScriptError) (stop : Stop) (result : Result Shown Stop) →
    result ≡ Err stop → stop ≡ of_script error → IfFault (λ found. items_left at.script ≡ breaks found) error → Rests start old new before after result
rest-stops start at old new before after come error stop result is says found =
    let later = place_at at come.backs in
    subst (Rests start old new before after) (sym (is ∙ ap Err says))
    (record {
      told = comes-to-conclude start later old new new before after come.moved (Err (of_script error)) (stopped-there at later new error refl found);
      counted = counts-stopped start before after (of_script error) (ahead-on start later old new before after after come.moved (ahead-none later after come.goes));
    })

-- what comes of an item is not written whole
pub item-stops : (start : Place) (at later : Undoer) (left : LinesLeft) (next : Item) (old mid new : SinkLog) (before so_far after : ℕ) → items_left at.script ≡ ahead_of next (items_left left) →
    MovedTo start at old mid before so_far → (stop : Stop) (result : Result Shown Stop) → result ≡ Err stop → Does next (record at { script = left }) later mid new so_far after (Err stop) →
    Rests start old new before after result
item-stops start at later left next old mid new before so_far after item_is come stop result is does =
    let place = place_at at come.backs in
    let here : Undoer = record at { script = left } in
    let same : place ≡ before_item next (place_at here come.backs) = ap (λ (i : Items). place_in at.history come.backs i at.number at.seen) item_is in
    let done : MovesTo place later mid new so_far after (Err stop) × CountsAhead place so_far after =
    subst (λ (p : Place). MovesTo p later mid new so_far after (Err stop) × CountsAhead p so_far after) (sym same) (does come.backs come.keeps (subst Goes same come.goes)) in
    subst (Rests start old new before after) (sym is)
    (record {
      told = comes-to-conclude start place old mid new before so_far come.moved (Err stop)
          (by_cause (λ _. ⊥) (λ says. Shows (Ending place) (Appends mid.written new.written) says.ends says.err) (λ _. ⊥) (λ name. ⊥ × Appends mid.written new.written [])
          (Fronted (Beginning place) (Appends mid.written new.written)) (Fronted (Beginning place) (Appends mid.written new.written))
          (Fronted (Beginning place) (Appends mid.written new.written)) (Appends mid.written new.written [] ⊎ Fronted (Beginning place) (Appends mid.written new.written))
          (λ stop no. absurd no) (λ name no. absurd no) (λ front. front) (λ front. inr front) stop done.0);
      counted = counts-stopped start before after stop (ahead-on start place old mid before so_far after come.moved done.1);
    })

-- The whole

-- where a script starts
abbrev pub start-at : Plan → ℕ → Table → List ℕ → Place
start-at plan undos T bytes = record { telling = by_plan plan; tree = T; undos = undos; backs = []; items = items_of undos bytes; number = 1; seen = shows plan T }

-- behind the first state stands what comes of the items
pub states-told : (plan : Plan) (undos : ℕ) (T : Table) (bytes : List ℕ) (first : Place) (old mid new : SinkLog) (before after : ℕ) (result : Result Shown Stop) → first ≡ start-at plan undos T bytes →
    Appends old.written mid.written (state_text plan T) → Rests first mid new before after result →
    Concludes (States (by_plan plan) undos T bytes) (λ _. ⊥) (BeginsStates (by_plan plan) undos T bytes) (Appends old.written new.written) result
states-told plan undos T bytes first old mid new before after result is out rests =
    concludes_behind (Ending (start-at plan undos T bytes)) (States (by_plan plan) undos T bytes) (Beginning (start-at plan undos T bytes)) (BeginsStates (by_plan plan) undos T bytes)
    old.written mid.written new.written (state_text plan T) out (λ output follows. (output, follows, refl)) (λ more begins. (more, begins, refl)) ([], following.nothing_yet T [] 1 (items_of undos bytes), refl) result
    (subst (λ (p : Place). Rests p mid new before after result) is rests).told

-- and its visits are counted with those of the first state
pub states-counted : (plan : Plan) (undos : ℕ) (T : Table) (bytes : List ℕ) (first : Place) (mid new : SinkLog) (amount start before after : ℕ) (result : Result Shown Stop) →
    first ≡ start-at plan undos T bytes → amount ≡ (by_plan plan).first_cost T → RoseFor amount start before first.seen → Rests first mid new before after result →
    CountsAlong (StatesCost (by_plan plan) undos T bytes) start after result
states-counted plan undos T bytes first mid new amount start before after result is all rose rests =
    along_as (λ cost. (later : ℕ) × Cost first later × (cost ≡ amount + later)) (StatesCost (by_plan plan) undos T bytes) start after result
    (λ cost costs. (costs.0, subst (λ (p : Place). Cost p costs.0) is costs.1, costs.2 ∙ ap (λ (n : ℕ). n + costs.0) all)) (rests.counted amount start rose)

-- that is where a history starts that was opened, and whose first state was written
pub starts-at : (session : Standing) (undos : ℕ) (bytes : List ℕ) (written : Remembered) (left : LinesLeft) (seen : Shown) → 1 ≤ undos → written.session.plan ≡ session.plan →
    written.session.tree ≡ session.tree → written.depth ≡ undos → left ≡ at_start bytes → seen ≡ shows session.plan session.tree.nodes →
    place_in written [] (items_left left) 1 seen ≡ start-at session.plan undos session.tree.nodes bytes
starts-at session undos bytes written left seen some plans trees depths lefts shown =
    places-same (place_in written [] (items_left left) 1 seen) (start-at session.plan undos session.tree.nodes bytes) (ap by_plan plans) (ap (λ (tree : Contents). tree.nodes) trees) depths refl
    (ap items_left lefts ∙ sym (items_some undos bytes some)) refl shown

-- and it is ready
pub ready-first : (session : Standing) (bytes : List ℕ) (at : Undoer) → session.tree.pair_cap ≡ pair_cap_for session.plan → length bytes ≤ MAX_SCRIPT_BYTES → at.history.session.plan ≡ session.plan →
    at.history.session.tree ≡ session.tree → at.script ≡ at_start bytes → at.number ≡ 1 → IsEvaluated at.history.session → IsReady at (items_left at.script)
ready-first session bytes at cap short plans trees lefts numbers fresh = record {
  cap = ap (λ (tree : Contents). tree.pair_cap) trees ∙ cap ∙ ap pair_cap_for (sym plans);
  fresh = fresh;
  unfaulted = ap (λ (left : LinesLeft). left.faulted) lefts;
  few =
      let same : item_count (items_left at.script) ≡ item_count (items_left (at_start bytes)) = ap (λ (left : LinesLeft). item_count (items_left left)) lefts in
      omega (arith, few_items bytes short, same, numbers);
}

-- the first state does not come to its end
pub none-told : (plan : Plan) (undos : ℕ) (T : Table) (bytes : List ℕ) (before after : ℕ) (stop : Stop) (result : Result Shown Stop) → result ≡ Err stop →
    Way (by_plan plan) undos T [] (items_of undos bytes) → after ≤ before + (by_plan plan).first_cost T → CountsAlong (StatesCost (by_plan plan) undos T bytes) before after result
none-told plan undos T bytes before after stop result is way at_most =
    let costs = way-cost (by_plan plan) undos T [] (items_of undos bytes) way in
    subst (CountsAlong (StatesCost (by_plan plan) undos T bytes) before after) (sym is)
    ((by_plan plan).first_cost T + costs.0, (costs.0, costs.1, refl), omega (arith, at_most))
