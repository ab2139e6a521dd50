-- Where the following of a script stands, and how it comes from one place to another.
use Rattle.std.specs.Prelude.{◌≡◌, ℕ, ◌+◌, ◌<◌, ◌^◌, false, List, ◌++◌, length}
use Rattle.edit_script.specs.Script.{Script, onto, script_left}
use Rattle.edit_script.specs.declared.command.Command.{Command}
use Rattle.edit_commands.specs.declared.refusal.ApplyError.{ApplyError}
use Rattle.edit_commands.specs.declared.refusal.ApplyError.TheVariants as apply
use Rattle.sch_io.specs.SinkLog.{SinkLog}
use Rattle.std.specs.Prelude.{Result, Err, MatchResult, IfErr}
use Rattle.sch_io.specs.Wrote.{Appends}
use Rattle.sch_commands.specs.declared.following.Follower.{Follower}
use Rattle.sch_words.specs.declared.status.Status.TheVariants as status
use Rattle.sch_stops.specs.declared.stop.Stop.{Stop}
use Rattle.sch_stops.specs.declared.stop.Stop.TheVariants.{Memory}
use Rattle.sch_stops.specs.EditLines.{refused_line}
use Rattle.sch_stops.specs.Output.{Output}
use Rattle.sch_commands.specs.Output.{in_front}
use Rattle.sch_commands.specs.Written.{Fronted}
use Rattle.sch_stops.specs.Stops.{ByCause, counted_if, ends_with}
use Rattle.sch_undo.specs.Standing.{Standing}
use Rattle.sch_undo.specs.shown.Shown.{Shown}
use Rattle.sch_commands.specs.declared.following.Scripted.{Scripted as Borrowed}
use Rattle.sch_commands.specs.declared.watching.Watched.{Watched as BorrowedWatched}
use Rattle.xp_watch.specs.Watching.{Watching}
use Rattle.sch_commands.specs.Behaviours.{Scripted, Treed, Watched, WatchedScript, tree_under, watched_on}
use Rattle.sch_commands.specs.inner.Scripts.{Begins, Follows}
use Rattle.sch_commands.specs.inner.Sessions.{Document, HasCost}
use Rattle.sch_commands.specs.inner.Writing.{IsOfWriting, WroteText}

-- what a session is of a document, and with a script
abbrev pub treed_by : Standing → Treed
treed_by session = tree_under session.plan session.tree.nodes

abbrev pub scripted_by : Borrowed → Scripted
scripted_by opened = record { treed = treed_by opened.session; script = opened.script }

-- what watched expressions over a document are, and with a script
abbrev pub watched_by : Watching → Watched
watched_by watch = watched_on watch.expressions watch.tree.nodes

abbrev pub watched_script : BorrowedWatched → WatchedScript
watched_script opened = record { watched = watched_by opened.watch; script = opened.script }

-- a place in a script that is followed: the document, what is to come of the script, the number of the next command, and what the states
-- so far show
pub record Place : Type 0 where
  pub session : Document
  pub script : Script
  pub number : ℕ
  pub seen : Shown

-- where a follower stands with a document
abbrev pub place_of : Document → Follower → Place
place_of document at = record { session = document; script = script_left at.script; number = at.number; seen = at.seen }

-- the outputs of what is to come, and the texts that it comes to write
abbrev pub Ending : Place → Output → Type 0
Ending at output = Follows at.session.telling at.session.tree.nodes at.number at.seen at.script output

abbrev pub Beginning : Place → List ℕ → Type 0
Beginning at text = Begins at.session.telling at.session.tree.nodes at.number at.script text

-- the same place in front of a command
abbrev pub in_front_of : Command → Place → Place
in_front_of command at = record at { script = onto command at.script }

-- what comes behind the later place comes behind the earlier one, with a text in front
pub record IsLed (earlier later : Place) (text : List ℕ) : Type 0 where
  pub ends : (output : Output) → Ending later output → Ending earlier (in_front text output)
  pub begins : (more : List ℕ) → Beginning later more → Beginning earlier (text ++ more)

-- the document has the pair cap that it is to have, and the commands can be numbered and have their visits
pub record IsReady (at : Place) : Type 0 where
  pub cap : at.session.tree.pair_cap ≡ at.session.telling.pair_cap
  pub few : at.number + length at.script.commands < 2 ^ 64
  pub costs : HasCost at.session at.script

-- what is written leads to the later place, or a front was written of a text of the earlier one
pub record Goes {A : Type 0} (earlier later : Place) (old new : SinkLog) (result : Result A Stop) : Type 0 where
  pub told : MatchResult result (λ _. (text : List ℕ) × IsLed earlier later text × Appends old.written new.written text)
      (ByCause (λ _. ⊥) (λ _. ⊥) (Fronted (Beginning earlier) (Appends old.written new.written)) (Fronted (Beginning earlier) (Appends old.written new.written)))
  pub writing : IfErr result IsOfWriting
  pub faults : new.faults ≡ counted_if (ends_with status.WriteFault result) old.faults

-- what comes of a command with a number that is not done: the line of one that is refused, which wants no memory; or want of memory
abbrev pub IsUndone : ℕ → ApplyError → SinkLog → SinkLog → Result (Unit {0}) Stop → Type 0
IsUndone number (apply.Refused reason) old new result = WroteText old new (refused_line number reason) result × (ends_with status.Memory result ≡ false)
IsUndone number apply.Memory old new result = (result ≡ Err Memory) × (new ≡ old)
