-- How the following of a script goes on, and how it ends.
use Rattle.std.proofs.Common.{◌∙◌, ◌≡◌, ℕ, suc, ◌+◌, ◌<◌, ◌≤◌, ◌^◌, ◌⊎◌, inl, inr, if◌then◌else◌, Bool, true, false, List, [], ◌∷◌, ◌++◌, append_assoc, append-nil, length, length-append, IfErr, IfNone, IfSome, OnOk, Option, None, Some, Result, Ok, Err, refl, ap, sym, subst, arith}
use Rattle.std.proofs.KnownBytes.{Appends-nil, Appends-trans}
use Rattle.sch_base.specs.Lists.{is_nil}
use Rattle.sch_io.specs.SinkLog.{SinkLog}
use Rattle.sch_io.specs.Wrote.{Appends}
use Rattle.pyx_core.proofs.LinesLemmas.{few_ended}
use Rattle.pyx_core.specs.Lines.{ended_lines, unended}
use Rattle.doc_tree.specs.Table.{Contents, Table}
use Rattle.doc_tree.specs.declared.refusal.EditRefusal.{EditRefusal}
use Rattle.edit_script.specs.CommandLine.{command_line}
use Rattle.edit_script.specs.Faults.{IfFault}
use Rattle.edit_script.specs.Script.{Opened, Script, goes_on, is_dot, is_piece, joined, last_line, lines_of, nothing, onto, opened_in, payload_fault, piece_of, script_at, script_of, stops, with_line}
use Rattle.edit_script.specs.declared.command.Command.{Command}
use Rattle.edit_script.specs.declared.command.Command.TheVariants.{Insert}
use Rattle.edit_script.specs.declared.command.Said.{Said}
use Rattle.edit_script.specs.declared.command.Said.TheVariants.{Whole, Opening}
use Rattle.edit_script.specs.declared.fault.ScriptError.{ScriptError}
use Rattle.edit_script.specs.declared.fault.ScriptError.TheVariants as script
use Rattle.edit_script.specs.declared.fault.ScriptKind.{ScriptKind}
use Rattle.edit_script.specs.declared.limits.TheConstants.{MAX_SCRIPT_BYTES}
use Rattle.edit_commands.specs.declared.refusal.ApplyError.{ApplyError}
use Rattle.edit_commands.specs.declared.refusal.ApplyError.TheVariants as apply
use Rattle.edit_command_laws.specs.OneEdit.{OneEdit}
use Rattle.edit_commands.specs.Commands.{IsEdited, RefusesCommand, command_refusal}
use Rattle.sch_compiled.specs.declared.plan.Plan.{Plan}
use Rattle.sch_undo.specs.Pairs.{has_too_many_pairs}
use Rattle.sch_undo.specs.Standing.{Standing}
use Rattle.sch_undo.specs.shown.Shown.{Shown}
use Rattle.sch_stops.specs.declared.refusal.ScriptRefusal.TheVariants as refusal
use Rattle.sch_words.specs.declared.status.Status.TheVariants as status
use Rattle.sch_stops.specs.declared.stop.Stop.{Stop}
use Rattle.sch_stops.specs.declared.stop.Stop.TheVariants.{ScriptRefused, Memory}
use Rattle.sch_commands.specs.Telling.{Telling, under}
use Rattle.sch_commands.specs.Following as undo
use Rattle.sch_commands.specs.Following.{items_of, then_shown}
use Rattle.sch_stops.specs.EditLines.{edit_line, refused_line}
use Rattle.sch_stops.specs.Output.{Output}
use Rattle.sch_commands.specs.Output.{ended, in_front}
use Rattle.sch_commands.specs.Written.{AppendsFront, Fronted}
use Rattle.sch_stops.specs.Stops.{counted_if, ends_with, of_script, stopped_by}
use Rattle.sch_commands.specs.Behaviours.{BeginsStates, States, too_many_pairs, tree_under}
use Rattle.sch_loading.specs.Stages.{Is, goes, halt_if}
use Rattle.sch_commands.specs.inner.Followers.{Beginning, Ending, Goes, IsLed, IsReady, IsUndone, Place, in_front_of, treed_by}
use Rattle.sch_loading.specs.Reads.{EndsAs}
use Rattle.sch_commands.specs.Carried.{Concludes, Shows}
use Rattle.sch_commands.specs.inner.Scripts.{Begins, Follows, comes_to_end, edited, edits, nothing_yet, refused, refuses, stops_at}
use Rattle.sch_commands.specs.inner.Sessions.{Document, HasCost}
use Rattle.sch_commands.specs.inner.Writing.{IsOfWriting, WroteText}
use Rattle.sch_commands.proofs.AloneLemmas.{begins-alone, follows-alone}
use Rattle.sch_commands.proofs.CostLemmas.{costs_same, past_edited, past_refused}
use Rattle.sch_commands.proofs.EndLemmas.{concludes_behind, memory_writing, on_ok}
use Rattle.sch_loading.proofs.PartLemmas.{by_cause}
use Rattle.sch_loading.proofs.SchemaLemmas.{passed}

-- How many commands a script has

-- a line gives one command at most
module _ (line : List ℕ) (lines : List (List ℕ)) (before : (insert : Option Opened) (number : ℕ) → length (script_at insert number lines).commands ≤ length lines) where
  few_said : (number : ℕ) (said : Result Said ScriptKind) →
      length (goes_on number said (script_at None (suc number) lines) (λ insert. script_at (Some insert) (suc number) lines)).commands ≤ suc (length lines)
  few_said number (Err kind) = omega arith
  few_said number (Ok (Whole command)) = omega (arith, before None (suc number))
  few_said number (Ok (Opening path at)) = omega (arith, before (Some (opened_in number path at)) (suc number))

  few_piece : (insert : Opened) (number : ℕ) (b : Bool) →
      length (if b then onto (Insert insert.path insert.at (piece_of (joined insert.lines))) (script_at None (suc number) lines) else stops (payload_fault insert)).commands ≤ suc (length lines)
  few_piece insert number true = omega (arith, before None (suc number))
  few_piece insert number false = omega arith

  few_between : (number : ℕ) (b : Bool) → is_nil line ≡ b → length (script_at None number (line ∷ lines)).commands ≤ suc (length lines)
  few_between number true is = rw is (omega (arith, before None (suc number)))
  few_between number false is = rw is (few_said number (command_line line))

  few_within : (insert : Opened) (number : ℕ) (b : Bool) → is_dot line ≡ b → length (script_at (Some insert) number (line ∷ lines)).commands ≤ suc (length lines)
  few_within insert number true is = rw is (few_piece insert number (is_piece (joined insert.lines)))
  few_within insert number false is = rw is (omega (arith, before (Some (with_line insert line)) (suc number)))

few_in_lines : (lines : List (List ℕ)) (insert : Option Opened) (number : ℕ) → length (script_at insert number lines).commands ≤ length lines
few_in_lines [] None number = omega arith
few_in_lines [] (Some insert) number = omega arith
few_in_lines (line ∷ lines) None number = few_between line lines (few_in_lines lines) number (is_nil line) refl
few_in_lines (line ∷ lines) (Some insert) number = few_within line lines (few_in_lines lines) insert number (is_dot line) refl

few_last : (bytes : List ℕ) → length (last_line bytes) ≤ 1
few_last [] = omega arith
few_last (b ∷ bytes) = omega arith

-- nor more lines than bytes, but for one
pub few_lines : (bytes : List ℕ) → length (lines_of bytes) ≤ suc (length bytes)
few_lines bytes = omega (arith, few_ended bytes, few_last (unended bytes), length-append (ended_lines bytes) (last_line (unended bytes)))

-- a script can be numbered
pub few_commands : (bytes : List ℕ) → length bytes ≤ MAX_SCRIPT_BYTES → 1 + length (script_of bytes).commands < 2 ^ 64
few_commands bytes short = omega (arith, few_lines bytes, few_in_lines (lines_of bytes) None 1, short)

-- Commands

-- no reason depends on names
pub refusal_under : (telling : Telling) (tree : Contents) (command : Command) → tree.pair_cap ≡ telling.pair_cap → command_refusal (under telling tree.nodes) command ≡ command_refusal tree command
refusal_under telling tree command cap = ap (λ (count : ℕ). command_refusal (record { nodes = tree.nodes; names = []; pair_cap = count }) command) (sym cap)

-- what is to come does not depend on how its place is told
pub follows_same : (telling other : Telling) (T U : Table) (n m : ℕ) (seen shown : Shown) (script rest : Script) (output : Output) → telling ≡ other → T ≡ U → n ≡ m → seen ≡ shown → script ≡ rest →
    Follows telling T n seen script output → Follows other U m shown rest output
follows_same telling other T U n m seen shown script rest output tellings trees numbers states scripts follows =
    subst (λ (s : Script). Follows other U m shown s output) scripts
    (subst (λ (s : Shown). Follows other U m s script output) states
    (subst (λ (k : ℕ). Follows other U k seen script output) numbers
    (subst (λ (X : Table). Follows other X n seen script output) trees
    (subst (λ (p : Telling). Follows p T n seen script output) tellings follows))))

begins_same : (telling other : Telling) (T U : Table) (n m : ℕ) (script rest : Script) (text : List ℕ) → telling ≡ other → T ≡ U → n ≡ m → script ≡ rest → Begins telling T n script text → Begins other U m rest text
begins_same telling other T U n m script rest text tellings trees numbers scripts begins =
    subst (λ (s : Script). Begins other U m s text) scripts
    (subst (λ (k : ℕ). Begins other U k script text) numbers
    (subst (λ (X : Table). Begins other X n script text) trees
    (subst (λ (p : Telling). Begins p T n script text) tellings begins)))

-- where a place is told by another
pub record IsPlace (at : Place) (telling : Telling) (T : Table) (number : ℕ) (rest : Script) : Type 0 where
  pub telling_is : at.session.telling ≡ telling
  pub tree_is : at.session.tree.nodes ≡ T
  pub number_is : at.number ≡ number
  pub rest_is : at.script ≡ rest

module _ (at later : Place) (command : Command) (cap : at.session.tree.pair_cap ≡ at.session.telling.pair_cap) where
  -- an accepted command leads from one place to the next
  pub led_edited : (U : Table) → command_refusal at.session.tree command ≡ None → IsEdited at.session.tree.nodes command U →
      IsPlace later at.session.telling U (at.number + 1) at.script → later.seen ≡ then_shown at.seen (at.session.telling.shows U) →
      IsLed (in_front_of command at) later (edit_line at.number ++ at.session.telling.text U)
  led_edited U none makes place seen = record {
    ends = λ output follows. edits at.session.tree.nodes U at.number at.seen command at.script output (refusal_under at.session.telling at.session.tree command cap ∙ none) makes
        (follows_same later.session.telling at.session.telling later.session.tree.nodes U later.number (at.number + 1) later.seen (then_shown at.seen (at.session.telling.shows U)) later.script at.script output
        place.telling_is place.tree_is place.number_is seen place.rest_is follows);
    begins = λ more begins. edited at.session.tree.nodes U at.number command at.script more (refusal_under at.session.telling at.session.tree command cap ∙ none) makes
        (begins_same later.session.telling at.session.telling later.session.tree.nodes U later.number (at.number + 1) later.script at.script more
        place.telling_is place.tree_is place.number_is place.rest_is begins);
  }

  -- and its text is one that is written
  pub begun_edited : (U : Table) → command_refusal at.session.tree command ≡ None → IsEdited at.session.tree.nodes command U →
      Beginning (in_front_of command at) ((edit_line at.number ++ at.session.telling.text U) ++ [])
  begun_edited U none makes = edited at.session.tree.nodes U at.number command at.script [] (refusal_under at.session.telling at.session.tree command cap ∙ none) makes (nothing_yet U (at.number + 1) at.script)

  -- and so does a refused command, which changes nothing
  pub led_refused : (reason : EditRefusal) → command_refusal at.session.tree command ≡ Some reason → IsPlace later at.session.telling at.session.tree.nodes (at.number + 1) at.script → later.seen ≡ at.seen →
      IsLed (in_front_of command at) later (refused_line at.number reason)
  led_refused reason some place seen = record {
    ends = λ output follows. refuses at.session.tree.nodes at.number at.seen command reason at.script output (refusal_under at.session.telling at.session.tree command cap ∙ some)
        (follows_same later.session.telling at.session.telling later.session.tree.nodes at.session.tree.nodes later.number (at.number + 1) later.seen at.seen later.script at.script output
        place.telling_is place.tree_is place.number_is seen place.rest_is follows);
    begins = λ more begins. refused at.session.tree.nodes at.number command reason at.script more (refusal_under at.session.telling at.session.tree command cap ∙ some)
        (begins_same later.session.telling at.session.telling later.session.tree.nodes at.session.tree.nodes later.number (at.number + 1) later.script at.script more
        place.telling_is place.tree_is place.number_is place.rest_is begins);
  }

  pub begun_refused : (reason : EditRefusal) → command_refusal at.session.tree command ≡ Some reason → Beginning (in_front_of command at) (refused_line at.number reason ++ [])
  begun_refused reason some = refused at.session.tree.nodes at.number command reason at.script [] (refusal_under at.session.telling at.session.tree command cap ∙ some)
      (nothing_yet at.session.tree.nodes (at.number + 1) at.script)

-- a text that was written leads on, or a front of it was
pub goes_by : {A : Type 0} (earlier later : Place) (old new : SinkLog) (text : List ℕ) (result : Result A Stop) → OnOk result (IsLed earlier later text) → Beginning earlier (text ++ []) →
    WroteText {A = A} old new text result → Goes {A = A} earlier later old new result
goes_by earlier later old new text (Ok done) led begun wrote = record { told = (text, led, wrote.told); writing = tt; faults = wrote.faults }
goes_by earlier later old new text (Err stop) led begun wrote = record {
  told = by_cause (λ _. ⊥) (λ _. ⊥) (λ _. ⊥) (λ _. ⊥) (AppendsFront old.written new.written text) (Fronted (Beginning earlier) (Appends old.written new.written))
      (AppendsFront old.written new.written text) (Fronted (Beginning earlier) (Appends old.written new.written)) (λ stop no. no) (λ name no. no) front front stop wrote.told;
  writing = wrote.writing;
  faults = wrote.faults;
}
  where
    front : AppendsFront old.written new.written text → Fronted (Beginning earlier) (Appends old.written new.written)
    front appended = record {
      text = text ++ [];
      comes = begun;
      done = appended.0;
      left = appended.1;
      is_front = append-nil text ∙ appended.2;
      out = appended.3;
    }

-- nothing was written, for want of memory
pub goes_nowhere : {A : Type 0} (earlier later : Place) (log : SinkLog) → Goes {A = A} earlier later log log (Err Memory)
goes_nowhere earlier later log = record {
  told = record {
    text = [];
    comes = nothing_yet earlier.session.tree.nodes earlier.number earlier.script;
    done = [];
    left = [];
    is_front = refl;
    out = Appends-nil log.written;
  };
  writing = memory_writing;
  faults = refl;
}

-- what comes of an accepted command
pub command_edited : (at later : Place) (command : Command) (session : Document) (old new : SinkLog) (result : Result (Unit {0}) Stop) → at.session.tree.pair_cap ≡ at.session.telling.pair_cap →
    command_refusal at.session.tree command ≡ None → IsEdited at.session.tree.nodes command session.tree.nodes → session.telling ≡ at.session.telling →
    WroteText {A = Unit {0}} old new (edit_line at.number ++ session.telling.text session.tree.nodes) result →
    later.session.telling ≡ session.telling → later.session.tree ≡ session.tree → later.number ≡ at.number + 1 → later.script ≡ at.script →
    OnOk result (later.seen ≡ then_shown at.seen (session.telling.shows session.tree.nodes)) → Goes {A = Unit {0}} (in_front_of command at) later old new result
command_edited at later command session old new result cap none makes telling wrote tellings trees numbers scripts seen =
    goes_by {A = Unit {0}} (in_front_of command at) later old new (edit_line at.number ++ at.session.telling.text session.tree.nodes) result (led result seen)
    (begun_edited at later command cap session.tree.nodes none makes)
    (subst (λ (p : Telling). WroteText {A = Unit {0}} old new (edit_line at.number ++ p.text session.tree.nodes) result) telling wrote)
  where
    led : (result : Result (Unit {0}) Stop) → OnOk result (later.seen ≡ then_shown at.seen (session.telling.shows session.tree.nodes)) →
        OnOk result (IsLed (in_front_of command at) later (edit_line at.number ++ at.session.telling.text session.tree.nodes))
    led (Ok done) seen = led_edited at later command cap session.tree.nodes none makes
        (record { telling_is = tellings ∙ telling; tree_is = ap (λ (tree : Contents). tree.nodes) trees; number_is = numbers; rest_is = scripts })
        (seen ∙ ap (λ (p : Telling). then_shown at.seen (p.shows session.tree.nodes)) telling)
    led (Err stop) seen = tt

-- and of a refused one
pub command_refused : (at later : Place) (command : Command) (reason : EditRefusal) (old new : SinkLog) (result : Result (Unit {0}) Stop) → at.session.tree.pair_cap ≡ at.session.telling.pair_cap →
    command_refusal at.session.tree command ≡ Some reason → WroteText {A = Unit {0}} old new (refused_line at.number reason) result →
    later.session.telling ≡ at.session.telling → later.session.tree.nodes ≡ at.session.tree.nodes → later.number ≡ at.number + 1 → later.script ≡ at.script → later.seen ≡ at.seen →
    Goes {A = Unit {0}} (in_front_of command at) later old new result
command_refused at later command reason old new result cap some wrote tellings trees numbers scripts seen =
    goes_by {A = Unit {0}} (in_front_of command at) later old new (refused_line at.number reason) result (led result)
    (begun_refused at later command cap reason some) wrote
  where
    led : (result : Result (Unit {0}) Stop) → OnOk result (IsLed (in_front_of command at) later (refused_line at.number reason))
    led (Ok done) = led_refused at later command cap reason some (record { telling_is = tellings; tree_is = trees; number_is = numbers; rest_is = scripts }) seen
    led (Err stop) = tt

-- and of one that is not done
pub command_undone : (at later : Place) (command : Command) (error : ApplyError) (old new : SinkLog) (result : Result (Unit {0}) Stop) → at.session.tree.pair_cap ≡ at.session.telling.pair_cap →
    RefusesCommand at.session.tree command error → IsUndone at.number error old new result →
    later.session.telling ≡ at.session.telling → later.session.tree.nodes ≡ at.session.tree.nodes → later.number ≡ at.number + 1 → later.script ≡ at.script → later.seen ≡ at.seen →
    Goes {A = Unit {0}} (in_front_of command at) later old new result
command_undone at later command (apply.Refused reason) old new result cap some undone tellings trees numbers scripts seen =
    command_refused at later command reason old new result cap some undone.0 tellings trees numbers scripts seen
command_undone at later command apply.Memory old new result cap some undone tellings trees numbers scripts seen =
    subst (λ (r : Result (Unit {0}) Stop). Goes {A = Unit {0}} (in_front_of command at) later old new r) (sym undone.0)
    (subst (λ (log : SinkLog). Goes {A = Unit {0}} (in_front_of command at) later old log (Err Memory)) (sym undone.1) (goes_nowhere (in_front_of command at) later old))

-- what comes behind a command has its visits: where it is accepted
pub costs_edited : (at session later : Document) (command : Command) (rest left : Script) → OneEdit → at.tree.pair_cap ≡ at.telling.pair_cap →
    command_refusal at.tree command ≡ None → IsEdited at.tree.nodes command session.tree.nodes → session.telling ≡ at.telling →
    later.telling ≡ session.telling → later.tree ≡ session.tree → left ≡ rest → HasCost at (onto command rest) → HasCost later left
costs_edited at session later command rest left one_edit cap none makes telling tellings trees scripts costs =
    let more = past_edited at.telling one_edit at.tree.nodes session.tree.nodes command rest (refusal_under at.telling at.tree command cap ∙ none) makes costs in
    (more.0, costs_same at.telling later.telling session.tree.nodes later.tree.nodes rest left more.0 (sym (tellings ∙ telling)) (ap (λ (tree : Contents). tree.nodes) (sym trees)) (sym scripts) more.1)

-- and where it is refused
pub costs_refused : (at later : Document) (command : Command) (reason : EditRefusal) (rest left : Script) → at.tree.pair_cap ≡ at.telling.pair_cap →
    command_refusal at.tree command ≡ Some reason → later.telling ≡ at.telling → later.tree.nodes ≡ at.tree.nodes → left ≡ rest → HasCost at (onto command rest) → HasCost later left
costs_refused at later command reason rest left cap some tellings trees scripts costs =
    let more = past_refused at.telling at.tree.nodes command reason rest (refusal_under at.telling at.tree command cap ∙ some) costs in
    (more.0, costs_same at.telling later.telling at.tree.nodes later.tree.nodes rest left more.0 (sym tellings) (sym trees) (sym scripts) more.1)

-- the next place is ready too
pub ready_after : (at later : Place) (command : Command) → IsReady (in_front_of command at) → later.session.tree.pair_cap ≡ at.session.tree.pair_cap → later.session.telling ≡ at.session.telling →
    later.number ≡ at.number + 1 → later.script ≡ at.script → HasCost later.session later.script → IsReady later
ready_after at later command ready caps tellings numbers scripts costs = record {
  cap = caps ∙ ready.cap ∙ ap (λ (t : Telling). t.pair_cap) (sym tellings);
  few =
      let length_is : length later.script.commands ≡ length at.script.commands = ap (λ (s : Script). length s.commands) scripts in
      omega (arith, ready.few, numbers, length_is);
  costs = costs;
}

-- behind one that is not done
pub ready_undone : (at later : Place) (command : Command) (error : ApplyError) (old new : SinkLog) (result : Result (Unit {0}) Stop) → IsReady (in_front_of command at) →
    RefusesCommand at.session.tree command error → IsUndone at.number error old new result → later.session ≡ at.session → later.number ≡ at.number + 1 → later.script ≡ at.script → OnOk result (IsReady later)
ready_undone at later command (apply.Refused reason) old new result ready some undone sessions numbers scripts =
    on_ok (IsReady later) result (ready_after at later command ready (ap (λ (s : Document). s.tree.pair_cap) sessions) (ap (λ (s : Document). s.telling) sessions) numbers scripts
    (costs_refused at.session later.session command reason at.script later.script ready.cap some (ap (λ (s : Document). s.telling) sessions) (ap (λ (s : Document). s.tree.nodes) sessions) scripts ready.costs))
ready_undone at later command apply.Memory old new result ready some undone sessions numbers scripts =
    subst (λ (r : Result (Unit {0}) Stop). OnOk r (IsReady later)) (sym undone.0) tt

-- The commands one after another

-- the later place was come to from the earlier one
pub record HasCome (earlier later : Place) (old new : SinkLog) : Type 0 where
  pub text : List ℕ
  pub led : IsLed earlier later text
  pub out : Appends old.written new.written text

-- no command was done yet
pub not_gone : (at : Place) (log : SinkLog) → HasCome at at log log
not_gone at log = record { text = []; led = record { ends = λ output follows. follows; begins = λ more begins. begins }; out = Appends-nil log.written }

pub led_on : (a b c : Place) (text more : List ℕ) → IsLed a b text → IsLed b c more → IsLed a c (text ++ more)
led_on a b c text more first next = record {
  ends = λ output follows. subst (λ (bytes : List ℕ). Ending a (record { out = bytes; err = output.err; ends = output.ends })) (sym (append_assoc text more output.out))
      (first.ends (in_front more output) (next.ends output follows));
  begins = λ rest begins. subst (Beginning a) (sym (append_assoc text more rest)) (first.begins (more ++ rest) (next.begins rest begins));
}

-- the place in front of the next command is the one that was come to
pub led_same : (earlier later rest : Place) (command : Command) (text : List ℕ) → IsPlace later rest.session.telling rest.session.tree.nodes rest.number (onto command rest.script) → later.seen ≡ rest.seen →
    IsLed earlier later text → IsLed earlier (in_front_of command rest) text
led_same earlier later rest command text place seen led = record {
  ends = λ output follows. led.ends output (follows_same rest.session.telling later.session.telling rest.session.tree.nodes later.session.tree.nodes rest.number later.number rest.seen later.seen
      (onto command rest.script) later.script output (sym place.telling_is) (sym place.tree_is) (sym place.number_is) (sym seen) (sym place.rest_is) follows);
  begins = λ more begins. led.begins more (begins_same rest.session.telling later.session.telling rest.session.tree.nodes later.session.tree.nodes rest.number later.number
      (onto command rest.script) later.script more (sym place.telling_is) (sym place.tree_is) (sym place.number_is) (sym place.rest_is) begins);
}

pub come_before : (earlier later rest : Place) (command : Command) (old new : SinkLog) → IsPlace later rest.session.telling rest.session.tree.nodes rest.number (onto command rest.script) → later.seen ≡ rest.seen →
    HasCome earlier later old new → HasCome earlier (in_front_of command rest) old new
come_before earlier later rest command old new place seen come = record { text = come.text; led = led_same earlier later rest command come.text place seen come.led; out = come.out }

-- one command more was done
pub come_on : {A : Type 0} (earlier before later : Place) (old mid new : SinkLog) (value : A) → HasCome earlier before old mid → Goes {A = A} before later mid new (Ok value) → HasCome earlier later old new
come_on earlier before later old mid new value come next = record {
  text = come.text ++ next.told.0;
  led = led_on earlier before later come.text next.told.0 come.led next.told.1;
  out = Appends-trans old.written mid.written new.written come.text next.told.0 come.out next.told.2;
}

-- the next command, where there is one
pub next_command : (next : Option Command) (command : Command) (old new : Script) → next ≡ Some command → IfSome next (λ c. old ≡ onto c new) → old ≡ onto command new
next_command next command old new is says = subst (λ (n : Option Command). IfSome n (λ c. old ≡ onto c new)) is says

pub come_to_next : (earlier later : Place) (rest : Script) (next : Option Command) (command : Command) (old new : SinkLog) → next ≡ Some command → IfSome next (λ c. later.script ≡ onto c rest) →
    HasCome earlier later old new → HasCome earlier (in_front_of command (record later { script = rest })) old new
come_to_next earlier later rest next command old new is says come = come_before earlier later (record later { script = rest }) command old new
    (record { telling_is = refl; tree_is = refl; number_is = refl; rest_is = next_command next command later.script rest is says }) refl come

-- the script is at its end where there is none
pub no_next : (next : Option Command) (left : Script) (Stays : Type 0) → ((command : Command) → next ≡ Some command → ⊥) → IfNone next ((left ≡ nothing) × Stays) → left ≡ nothing
no_next None left Stays none says = says.0
no_next (Some command) left Stays none says = absurd (none command refl)

-- how the rest ends is how all ends
comes_to_conclude : (earlier later : Place) (old mid new : SinkLog) → HasCome earlier later old mid → (result : Result Shown Stop) →
    Concludes (Ending later) (λ _. ⊥) (Beginning later) (Appends mid.written new.written) result → Concludes (Ending earlier) (λ _. ⊥) (Beginning earlier) (Appends old.written new.written) result
comes_to_conclude earlier later old mid new come = concludes_behind (Ending later) (Ending earlier) (Beginning later) (Beginning earlier) old.written mid.written new.written come.text come.out
    come.led.ends come.led.begins (come.led.begins [] (nothing_yet later.session.tree.nodes later.number later.script))

-- the script comes to its end
pub rest_ends : (earlier later : Place) (old mid : SinkLog) → HasCome earlier later old mid → later.script ≡ nothing →
    Concludes (Ending earlier) (λ _. ⊥) (Beginning earlier) (Appends old.written mid.written) (Ok later.seen)
rest_ends earlier later old mid come none = comes_to_conclude earlier later old mid mid come (Ok later.seen) (record {
  output = ended [] later.seen;
  may_be = subst (λ (s : Script). Follows later.session.telling later.session.tree.nodes later.number later.seen s (ended [] later.seen)) (sym none)
      (comes_to_end later.session.tree.nodes later.number later.seen);
  ends_so = refl;
  err_is = refl;
  out = Appends-nil mid.written;
})

-- it has a fault, or memory runs out
pub rest_stops : (earlier later : Place) (old mid : SinkLog) → HasCome earlier later old mid → (error : ScriptError) (stop : Stop) (result : Result Shown Stop) → result ≡ Err stop → stop ≡ of_script error →
    IfFault (λ found. later.script ≡ stops found) error → Concludes (Ending earlier) (λ _. ⊥) (Beginning earlier) (Appends old.written mid.written) result
rest_stops earlier later old mid come error stop result is says found = subst (Concludes (Ending earlier) (λ _. ⊥) (Beginning earlier) (Appends old.written mid.written)) (sym (is ∙ ap Err says))
    (comes_to_conclude earlier later old mid mid come (Err (of_script error)) (by error found))
  where
    by : (error : ScriptError) → IfFault (λ found. later.script ≡ stops found) error → Concludes (Ending later) (λ _. ⊥) (Beginning later) (Appends mid.written mid.written) (Err (of_script error))
    by (script.Fault fault) found = record {
      output = stopped_by (ScriptRefused (refusal.Faulted fault));
      may_be = subst (λ (s : Script). Follows later.session.telling later.session.tree.nodes later.number later.seen s (stopped_by (ScriptRefused (refusal.Faulted fault)))) (sym found)
          (stops_at later.session.tree.nodes later.number later.seen fault);
      ends_so = refl;
      err_is = refl;
      out = Appends-nil mid.written;
    }
    by script.Memory found = inl (Appends-nil mid.written)

pub script_writing : (error : ScriptError) (stop : Stop) (result : Result Shown Stop) → result ≡ Err stop → stop ≡ of_script error → IfErr result IsOfWriting
script_writing error stop result is says = subst (λ (r : Result Shown Stop). IfErr r IsOfWriting) (sym (is ∙ ap Err says)) (by error)
  where
    by : (error : ScriptError) → IsOfWriting (of_script error)
    by (script.Fault fault) = record { unnamed = refl; usage = refl; missing = refl; read_fault = refl; writes = refl; all_read = λ _ _ all. all }
    by script.Memory = memory_writing

pub script_faults : (count : ℕ) (error : ScriptError) (stop : Stop) (result : Result Shown Stop) → result ≡ Err stop → stop ≡ of_script error → count ≡ counted_if (ends_with status.WriteFault result) count
script_faults count error stop result is says = subst (λ (r : Result Shown Stop). count ≡ counted_if (ends_with status.WriteFault r) count) (sym (is ∙ ap Err says)) (by error)
  where
    by : (error : ScriptError) → count ≡ counted_if (ends_with {A = Shown} status.WriteFault (Err (of_script error))) count
    by (script.Fault fault) = refl
    by script.Memory = refl

-- what comes of a command is not written whole
pub command_stops : {A : Type 0} (earlier before later : Place) (old mid new : SinkLog) → HasCome earlier before old mid → (stop : Stop) (result : Result Shown Stop) → result ≡ Err stop →
    Goes {A = A} before later mid new (Err stop) → Concludes (Ending earlier) (λ _. ⊥) (Beginning earlier) (Appends old.written new.written) result
command_stops earlier before later old mid new come stop result is next = subst (Concludes (Ending earlier) (λ _. ⊥) (Beginning earlier) (Appends old.written new.written)) (sym is)
    (comes_to_conclude earlier before old mid new come (Err stop)
    (by_cause (λ _. ⊥) (λ says. Shows (Ending before) (Appends mid.written new.written) says.ends says.err) (λ _. ⊥) (λ name. ⊥ × Appends mid.written new.written [])
    (Fronted (Beginning before) (Appends mid.written new.written)) (Fronted (Beginning before) (Appends mid.written new.written))
    (Fronted (Beginning before) (Appends mid.written new.written)) (Appends mid.written new.written [] ⊎ Fronted (Beginning before) (Appends mid.written new.written))
    (λ stop no. absurd no) (λ name no. absurd no) (λ front. front) (λ front. inr front) stop next.told))

pub goes_writing : {A : Type 0} (before later : Place) (mid new : SinkLog) (stop : Stop) (result : Result Shown Stop) → result ≡ Err stop → Goes {A = A} before later mid new (Err stop) → IfErr result IsOfWriting
goes_writing before later mid new stop result is next = subst (λ (r : Result Shown Stop). IfErr r IsOfWriting) (sym is) next.writing

pub goes_faults : {A : Type 0} (before later : Place) (mid new : SinkLog) (count : ℕ) (stop : Stop) (result : Result Shown Stop) → result ≡ Err stop → mid.faults ≡ count → Goes {A = A} before later mid new (Err stop) →
    new.faults ≡ counted_if (ends_with status.WriteFault result) count
goes_faults before later mid new count stop result is same next = subst (λ (r : Result Shown Stop). new.faults ≡ counted_if (ends_with status.WriteFault r) count) (sym is)
    (next.faults ∙ ap (λ (faults : ℕ). counted_if (ends_with {A = Shown} status.WriteFault (Err stop)) faults) same)

-- The first state

-- the first state is not written whole
pub first_stops : (telling : Telling) (undos : ℕ) (T : Table) (bytes : List ℕ) (old new : SinkLog) (stop : Stop) (result : Result Shown Stop) → result ≡ Err stop →
    WroteText {A = Shown} old new (telling.text T) (Err stop) → Concludes (States telling undos T bytes) (λ _. ⊥) (BeginsStates telling undos T bytes) (Appends old.written new.written) result
first_stops telling undos T bytes old new stop result is wrote = subst (Concludes (States telling undos T bytes) (λ _. ⊥) (BeginsStates telling undos T bytes) (Appends old.written new.written)) (sym is)
    (by_cause (λ _. ⊥) (λ says. Shows (States telling undos T bytes) (Appends old.written new.written) says.ends says.err) (λ _. ⊥) (λ name. ⊥ × Appends old.written new.written [])
    (AppendsFront old.written new.written (telling.text T)) (Fronted (BeginsStates telling undos T bytes) (Appends old.written new.written))
    (AppendsFront old.written new.written (telling.text T)) (Appends old.written new.written [] ⊎ Fronted (BeginsStates telling undos T bytes) (Appends old.written new.written))
    (λ stop no. absurd no) (λ name no. absurd no) front (λ appended. inr (front appended)) stop wrote.told)
  where
    front : AppendsFront old.written new.written (telling.text T) → Fronted (BeginsStates telling undos T bytes) (Appends old.written new.written)
    front appended = record {
      text = telling.text T ++ [];
      comes = ([], undo.nothing_yet T [] 1 (items_of undos bytes), refl);
      done = appended.0;
      left = appended.1;
      is_front = append-nil (telling.text T) ∙ appended.2;
      out = appended.3;
    }

-- and behind it stands what comes of the commands
pub first_then : (telling : Telling) (T : Table) (bytes : List ℕ) (old mid new : SinkLog) (first : Place) → IsPlace first telling T 1 (script_of bytes) → first.seen ≡ telling.shows T →
    Appends old.written mid.written (telling.text T) → (result : Result Shown Stop) →
    Concludes (Ending first) (λ _. ⊥) (Beginning first) (Appends mid.written new.written) result → Concludes (States telling 0 T bytes) (λ _. ⊥) (BeginsStates telling 0 T bytes) (Appends old.written new.written) result
first_then telling T bytes old mid new first place seen out = concludes_behind (Ending first) (States telling 0 T bytes) (Beginning first) (BeginsStates telling 0 T bytes) old.written mid.written new.written (telling.text T) out
    (λ output follows. (
      output,
      follows-alone telling T 1 (telling.shows T) (script_of bytes) output
          (follows_same first.session.telling telling first.session.tree.nodes T first.number 1 first.seen (telling.shows T) first.script (script_of bytes) output
          place.telling_is place.tree_is place.number_is seen place.rest_is follows),
      refl,
    ))
    (λ more begins. (
      more,
      begins-alone telling T 1 (script_of bytes) more
          (begins_same first.session.telling telling first.session.tree.nodes T first.number 1 first.script (script_of bytes) more place.telling_is place.tree_is place.number_is place.rest_is begins),
      refl,
    ))
    ([], undo.nothing_yet T [] 1 (items_of 0 bytes), refl)

-- a document that was opened under a plan
pub opened_under : (plan : Plan) (tree : Contents) (session : Standing) → session.plan ≡ plan → session.tree.nodes ≡ tree.nodes →
    has_too_many_pairs plan tree.nodes ≡ false → EndsAs (Is (halt_if (has_too_many_pairs plan tree.nodes) too_many_pairs (tree_under plan tree.nodes)) []) treed_by (Ok session)
opened_under plan tree session plans nodes within =
    (refl, ap (λ (p : Plan). goes (tree_under p session.tree.nodes)) plans ∙ ap (λ (T : Table). goes (tree_under plan T)) nodes ∙ passed (has_too_many_pairs plan tree.nodes) too_many_pairs (tree_under plan tree.nodes) within)
