-- Where the following of a script stands in which edits can be undone, and how it comes from one place to another.
use Rattle.std.specs.Prelude.{◌≡◌, ℕ, ◌+◌, ◌<◌, ◌^◌, false, List, ◌++◌, Result, Err, MatchResult}
use Rattle.sch_io.specs.SinkLog.{SinkLog}
use Rattle.sch_io.specs.Wrote.{Appends}
use Rattle.doc_tree.specs.Table.{Table}
use Rattle.doc_tree.specs.declared.refusal.EditRefusal.TheVariants.{IdsSpent}
use Rattle.edit_script.specs.Undos.{Items, edits, item_count, items_left, undoes}
use Rattle.edit_script.specs.WellFormed.{WellFormedCommand}
use Rattle.sch_undo.specs.Pairs.{pair_cap_for}
use Rattle.sch_undo.specs.shown.Shown.{Shown}
use Rattle.sch_undo.specs.Remembered.{Remembered}
use Rattle.sch_undo.specs.declared.error.UndoError.{UndoError}
use Rattle.sch_undo.specs.declared.error.UndoError.TheVariants as undo
use Rattle.sch_words.specs.declared.status.Status.TheVariants as status
use Rattle.sch_stops.specs.EditLines.{edit_line, no_history_line, refused_line, undo_line}
use Rattle.sch_stops.specs.Output.{Output}
use Rattle.sch_stops.specs.Stops.{ByCause, ends_with}
use Rattle.sch_stops.specs.declared.stop.Stop.{Stop}
use Rattle.sch_stops.specs.declared.stop.Stop.TheVariants.{Memory}
use Rattle.sch_commands.specs.Following.{Begins, Earlier, Follows}
use Rattle.sch_commands.specs.Output.{in_front}
use Rattle.sch_commands.specs.Written.{Fronted}
use Rattle.sch_commands.specs.Steps.{CountsAtMost, EditsCost}
use Rattle.sch_commands.specs.Telling.{Telling, by_plan}
use Rattle.sch_commands.specs.declared.undoing.Done.{Done}
use Rattle.sch_commands.specs.declared.undoing.Done.TheVariants.{Edited, Undone}
use Rattle.sch_commands.specs.declared.undoing.Item.{Item}
use Rattle.sch_commands.specs.declared.undoing.Item.TheVariants as item
use Rattle.sch_commands.specs.declared.undoing.Undoer.{Undoer}
use Rattle.sch_commands.specs.Carried.{Concludes}
use Rattle.sch_commands.specs.inner.Counts.{CountsAlong, RoseFor}
use Rattle.sch_commands.specs.inner.Sessions.{IsEvaluated}
use Rattle.sch_commands.specs.inner.Ways.{Way, entries_of}
use Rattle.sch_commands.specs.inner.Writing.{WroteText}

-- Items

-- an item in front of others
abbrev pub ahead_of : Item → Items → Items
ahead_of (item.Edit command) rest = edits command rest
ahead_of item.Undo rest = undoes rest

-- a command is such as a script can hold
abbrev pub IsFormed : Item → Type 0
IsFormed (item.Edit command) = WellFormedCommand command
IsFormed item.Undo = Unit {0}

-- Places

-- what is told of a document, and its tree; how many edits can be undone, and those that are, the newest first; what is to come of the
-- script, the number of the next command or undo, and what the states so far show
pub record Place : Type 0 where
  pub telling : Telling
  pub tree : Table
  pub undos : ℕ
  pub backs : List Earlier
  pub items : Items
  pub number : ℕ
  pub seen : Shown

-- the outputs of what is to come, the texts that it comes to write, its visits, and the ways in which it goes on
abbrev pub Ending : Place → Output → Type 0
Ending at output = Follows at.telling at.undos at.tree at.backs at.number at.seen at.items output

abbrev pub Beginning : Place → List ℕ → Type 0
Beginning at text = Begins at.telling at.undos at.tree at.backs at.number at.items text

abbrev pub Cost : Place → ℕ → Type 0
Cost at cost = EditsCost at.telling at.undos at.tree at.backs at.items cost

abbrev pub Goes : Place → Type 0
Goes at = Way at.telling at.undos at.tree at.backs at.items

-- what is to come at a place counts at most its visits
abbrev pub CountsAhead : Place → ℕ → ℕ → Type 0
CountsAhead at before after = CountsAtMost (Cost at) before after

-- the same place in front of an item
abbrev pub before_item : Item → Place → Place
before_item item at = record at { items = ahead_of item at.items }

-- where a history stands, by the edits that it keeps
abbrev pub place_in : Remembered → List Earlier → Items → ℕ → Shown → Place
place_in history backs items number seen = record {
  telling = by_plan history.session.plan;
  tree = history.session.tree.nodes;
  undos = history.depth;
  backs = backs;
  items = items;
  number = number;
  seen = seen;
}

abbrev pub place_at : Undoer → List Earlier → Place
place_at at backs = place_in at.history backs (items_left at.script) at.number at.seen

-- a history keeps these edits
abbrev pub Keeps : Remembered → List Earlier → Type 0
Keeps history backs = history.entries ≡ entries_of backs

-- the document has its plan's pair cap and was evaluated, no fault of the script was answered, and what is to come can be numbered
pub record IsReady (at : Undoer) (items : Items) : Type 0 where
  pub cap : at.history.session.tree.pair_cap ≡ pair_cap_for at.history.session.plan
  pub fresh : IsEvaluated at.history.session
  pub unfaulted : at.script.faulted ≡ false
  pub few : at.number + item_count items < 2 ^ 64

-- From place to place

-- what comes behind the later place comes behind the earlier one, with a text in front, and more visits
pub record Leads (earlier later : Place) (text : List ℕ) (cost : ℕ) : Type 0 where
  pub ends : (output : Output) → Ending later output → Ending earlier (in_front text output)
  pub begins : (more : List ℕ) → Beginning later more → Beginning earlier (text ++ more)
  pub costs : (rest : ℕ) → Cost later rest → Cost earlier (cost + rest)

-- the later place was come to from the earlier one
pub record Moved (earlier later : Place) (old new : SinkLog) (before after : ℕ) : Type 0 where
  pub text : List ℕ
  pub cost : ℕ
  pub leads : Leads earlier later text cost
  pub out : Appends old.written new.written text
  pub rose : (first start : ℕ) → RoseFor first start before earlier.seen → RoseFor (first + cost) start after later.seen

-- a place was come to at which the history stands, and from which the script goes on
pub record MovedTo (earlier : Place) (at : Undoer) (old new : SinkLog) (before after : ℕ) : Type 0 where
  pub backs : List Earlier
  pub keeps : Keeps at.history backs
  pub goes : Goes (place_at at backs)
  pub moved : Moved earlier (place_at at backs) old new before after

-- that, or a front was written of a text of the earlier place
abbrev pub MovesTo : Place → Undoer → SinkLog → SinkLog → ℕ → ℕ → Result (Unit {0}) Stop → Type 0
MovesTo earlier at old new before after result = MatchResult result (λ _. MovedTo earlier at old new before after)
    (ByCause (λ _. ⊥) (λ _. ⊥) (Fronted (Beginning earlier) (Appends old.written new.written)) (Fronted (Beginning earlier) (Appends old.written new.written)))

-- what comes of an item, whatever edits the history keeps: at most the visits of what is to come are counted
abbrev pub Does : Item → Undoer → Undoer → SinkLog → SinkLog → ℕ → ℕ → Result (Unit {0}) Stop → Type 0
Does item at later old new before after result = (backs : List Earlier) → Keeps at.history backs → Goes (before_item item (place_at at backs)) →
    MovesTo (before_item item (place_at at backs)) later old new before after result × CountsAhead (before_item item (place_at at backs)) before after

-- what comes of the items from a place on, with what was counted before
pub record Rests (earlier : Place) (old new : SinkLog) (before after : ℕ) (result : Result Shown Stop) : Type 0 where
  pub told : Concludes (Ending earlier) (λ _. ⊥) (Beginning earlier) (Appends old.written new.written) result
  pub counted : (first start : ℕ) → RoseFor first start before earlier.seen →
      CountsAlong (λ cost. (later : ℕ) × Cost earlier later × (cost ≡ first + later)) start after result

-- Lines

-- the line in front of a state
abbrev pub done_line : Done → ℕ → List ℕ
done_line Edited number = edit_line number
done_line Undone number = undo_line number

-- what comes of an undo with a number that is not done: its line, which wants no memory; or want of memory
abbrev pub IsNotUndone : ℕ → UndoError → SinkLog → SinkLog → Result (Unit {0}) Stop → Type 0
IsNotUndone number undo.NoHistory old new result = WroteText old new (no_history_line number) result × (ends_with status.Memory result ≡ false)
IsNotUndone number undo.IdsSpent old new result = WroteText old new (refused_line number IdsSpent) result × (ends_with status.Memory result ≡ false)
IsNotUndone number undo.Memory old new result = (result ≡ Err Memory) × (new ≡ old)
