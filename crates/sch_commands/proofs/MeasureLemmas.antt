-- How the measuring of a script goes on, and how it ends.
use Rattle.std.proofs.Common.{◌∙◌, ◌≡◌, ◌≤◌, ℕ, ◌+◌, inl, Bool, true, false, ◌||◌, if◌then◌else◌, List, [], ◌++◌, length, IfErr, IfNone, IfOk, IfSome, OnOk, Option, None, Some, Result, Ok, Err, refl, ap, sym, subst, true≢false}
use Rattle.std.specs.Prelude.{is_some}
use Rattle.std.proofs.KnownBytes.{Appends-nil}
use Rattle.sch_io.specs.Files.{Files}
use Rattle.sch_io.specs.ShelfState.{ShelfState}
use Rattle.sch_io.specs.SinkLog.{SinkLog}
use Rattle.sch_io.specs.Wrote.{Appends}
use Rattle.doc_tree.specs.Table.{Contents, Table}
use Rattle.doc_tree.specs.Walks.{order}
use Rattle.doc_tree.specs.declared.refusal.EditRefusal.{EditRefusal}
use Rattle.edit_script.specs.Faults.{IfFault}
use Rattle.edit_script.specs.Script.{LinesLeft, Script, nothing, onto, script_left, script_of, stops}
use Rattle.edit_script.specs.declared.command.Command.{Command as Edit}
use Rattle.edit_script.specs.declared.fault.ScriptError.{ScriptError}
use Rattle.edit_script.specs.declared.fault.ScriptError.TheVariants as script
use Rattle.edit_commands.specs.Commands.{IsEdited, command_refusal}
use Rattle.sch_compiled.specs.declared.plan.Plan.{Plan}
use Rattle.sch_compiled.specs.declared.state_fault.StateFault.{StateFault}
use Rattle.sch_units.specs.Validity.{finds, first_fault}
use Rattle.sch_undo.specs.Counts.{counts_of}
use Rattle.sch_undo.specs.Pairs.{pair_cap_for}
use Rattle.sch_undo.specs.Standing.{Standing}
use Rattle.sch_undo.specs.State.{shown_by, shows, state_text}
use Rattle.sch_undo.specs.counting.Counts.{Counts}
use Rattle.sch_undo.specs.shown.Shown.{Shown}
use Rattle.sch_undo.specs.shown.Shown.TheVariants.{Clean, Findings, Fault}
use Rattle.sch_measure.specs.Shelf.{measure_files}
use Rattle.sch_measure.specs.declared.shelf.TheConstants.{SCHEMA_NAME, DOCUMENT_NAME, SCRIPT_NAME}
use Rattle.sch_words.specs.Commands.{default_phase}
use Rattle.sch_words.specs.declared.status.Status.TheVariants as status
use Rattle.sch_stops.specs.declared.refusal.ScriptRefusal.TheVariants as refusal
use Rattle.sch_stops.specs.declared.stop.Stop.{Stop}
use Rattle.sch_stops.specs.declared.stop.Stop.TheVariants.{ScriptRefused, Memory}
use Rattle.sch_stops.specs.Output.{Output}
use Rattle.sch_stops.specs.Stops.{counted_if, ends_with, of_script, stopped_by}
use Rattle.sch_loading.specs.Reads.{Reads}
use Rattle.sch_loading.specs.Stages.{goes}
use Rattle.sch_loading.proofs.PartLemmas.{reads_none, reads_nothing}
use Rattle.sch_commands.specs.Behaviours.{Making, Measures, MeasuresText, OpeningAll, States}
use Rattle.sch_commands.specs.Following.{then_shown}
use Rattle.sch_commands.specs.Measuring.{LeadsTo, measure_text, measured_as, past_edited, past_refused, to_a_fault, to_the_end}
use Rattle.sch_commands.specs.Output.{ended, in_front, status_shown}
use Rattle.sch_commands.specs.Steps.{CountsAtMost}
use Rattle.sch_commands.specs.Telling.{Telling, by_plan}
use Rattle.sch_commands.specs.Carried.{Concludes}
use Rattle.sch_commands.specs.inner.Counts.{CountsAlong, RoseFor}
use Rattle.sch_commands.specs.inner.Followers.{Ending, Place, in_front_of, scripted_by}
use Rattle.sch_commands.specs.inner.Measurers.{ConcludesMeasure, IsUnderWay, Moved, MovesTo, RestMeasured, StopsAt, is_fault, measured_of, place_at, text_of_both}
use Rattle.sch_commands.specs.inner.Scripts.{Follows, comes_to_end, stops_at}
use Rattle.sch_commands.specs.inner.Sessions.{Document, HasCost, IsEvaluated, LeavesDirty, ScriptCost, document_of, next_cost}
use Rattle.sch_commands.specs.inner.Writing.{IsOfWriting}
use Rattle.sch_commands.specs.declared.following.Scripted.{Scripted}
use Rattle.sch_commands.specs.declared.measuring.Measured.{Measured}
use Rattle.sch_commands.specs.declared.measuring.Measurer.{Measurer}
use Rattle.sch_commands.proofs.AloneLemmas.{follows-alone}
use Rattle.sch_commands.proofs.EndLemmas.{text_ends}
use Rattle.sch_commands.proofs.FollowLemmas.{IsPlace, follows_same, led_edited, led_on, led_refused, led_same, next_command, refusal_under}
use Rattle.sch_commands.proofs.StepLemmas.{ahead_none, ahead_on, costed_edited, costed_on, costed_refused, costed_to_next, not_costed}
use Rattle.sch_commands.proofs.SessionLemmas.{RunsDirty, leaves-dirty}

-- Faults among what is shown

-- a fault is shown exactly where the state is one
pub shows-fault : (plan : Plan) (T : Table) → is_fault (shows plan T) ≡ is_some (first_fault plan T)
shows-fault plan T = by (first_fault plan T)
  where
    found : (b : Bool) → is_fault (if b then Findings else Clean) ≡ false
    found true = refl
    found false = refl

    by : (first : Option StateFault) → is_fault (shown_by plan T first) ≡ is_some first
    by None = found (finds plan T)
    by (Some fault) = refl

then-fault : (seen next : Shown) → is_fault (then_shown seen next) ≡ (is_fault seen || is_fault next)
then-fault Fault next = refl
then-fault Clean next = refl
then-fault Findings next = refl

-- The documents that commands make

leads-same : (telling other : Telling) (T V U : Table) (script rest : Script) → telling ≡ other → T ≡ V → script ≡ rest → LeadsTo telling T script U → LeadsTo other V rest U
leads-same telling other T V U script rest tellings trees scripts leads =
    subst (λ (s : Script). LeadsTo other V s U) scripts
    (subst (λ (X : Table). LeadsTo other X script U) trees
    (subst (λ (p : Telling). LeadsTo p T script U) tellings leads))

-- From place to place

pub not-moved : (at : Place) (count : ℕ) → Moved at at count count
not-moved at count = record {
  text = [];
  led = record { ends = λ output follows. follows; begins = λ more begins. begins };
  leads = λ U leads. leads;
  costed = not_costed at count;
}

pub moved-on : (a b c : Place) (before mid after : ℕ) → Moved a b before mid → Moved b c mid after → Moved a c before after
moved-on a b c before mid after first next = record {
  text = first.text ++ next.text;
  led = led_on a b c first.text next.text first.led next.led;
  leads = λ U leads. first.leads U (next.leads U leads);
  costed = costed_on a b c before mid after first.costed next.costed;
}

-- the place in front of the next command is the one that was come to
pub moved-to-next : (earlier later : Place) (rest : Script) (next : Option Edit) (command : Edit) (before after : ℕ) → next ≡ Some command → IfSome next (λ c. later.script ≡ onto c rest) →
    Moved earlier later before after → Moved earlier (in_front_of command (record later { script = rest })) before after
moved-to-next earlier later rest next command before after is says moved = record {
  text = moved.text;
  led = led_same earlier later (record later { script = rest }) command moved.text
      (record { telling_is = refl; tree_is = refl; number_is = refl; rest_is = next_command next command later.script rest is says }) refl moved.led;
  leads = λ U leads. moved.leads U (leads-same later.session.telling later.session.telling later.session.tree.nodes later.session.tree.nodes U (onto command rest) later.script refl refl
      (sym (next_command next command later.script rest is says)) leads);
  costed = costed_to_next earlier later rest next command before after is says moved.costed;
}

-- an accepted command leads on
pub moved-edited : (at later : Place) (command : Edit) (session : Document) (before after : ℕ) → at.session.tree.pair_cap ≡ at.session.telling.pair_cap →
    command_refusal at.session.tree command ≡ None → IsEdited at.session.tree.nodes command session.tree.nodes →
    session.telling ≡ at.session.telling → LeavesDirty at.session command session →
    later.session.telling ≡ session.telling → later.session.tree ≡ session.tree → later.number ≡ at.number + 1 → later.script ≡ at.script → later.seen ≡ then_shown at.seen (session.telling.shows session.tree.nodes) →
    RoseFor (session.next) before after (session.telling.shows session.tree.nodes) → Moved (in_front_of command at) later before after
moved-edited at later command session before after cap none makes telling dirty tellings trees numbers scripts seen rose =
    let tables = ap (λ (tree : Contents). tree.nodes) trees in
    record {
      text = _;
      led = led_edited at later command cap session.tree.nodes none makes
          (record { telling_is = tellings ∙ telling; tree_is = tables; number_is = numbers; rest_is = scripts })
          (seen ∙ ap (λ (p : Telling). then_shown at.seen (p.shows session.tree.nodes)) telling);
      leads = λ U leads. past_edited at.session.tree.nodes session.tree.nodes U command at.script (refusal_under at.session.telling at.session.tree command cap ∙ none) makes
          (leads-same later.session.telling at.session.telling later.session.tree.nodes session.tree.nodes U later.script at.script (tellings ∙ telling) tables scripts leads);
      costed = costed_edited at later command session before after cap none makes telling dirty tellings trees scripts seen rose;
    }

-- and so does a refused one
pub moved-refused : (at later : Place) (command : Edit) (reason : EditRefusal) (count : ℕ) → at.session.tree.pair_cap ≡ at.session.telling.pair_cap →
    command_refusal at.session.tree command ≡ Some reason → later.session ≡ at.session → later.number ≡ at.number + 1 → later.script ≡ at.script → later.seen ≡ at.seen →
    Moved (in_front_of command at) later count count
moved-refused at later command reason count cap some sessions numbers scripts seen =
    let tellings = ap (λ (s : Document). s.telling) sessions in
    let tables = ap (λ (s : Document). s.tree.nodes) sessions in
    record {
      text = _;
      led = led_refused at later command cap reason some (record { telling_is = tellings; tree_is = tables; number_is = numbers; rest_is = scripts }) seen;
      leads = λ U leads. past_refused at.session.tree.nodes U command reason at.script (refusal_under at.session.telling at.session.tree command cap ∙ some)
          (leads-same later.session.telling at.session.telling later.session.tree.nodes at.session.tree.nodes U later.script at.script tellings tables scripts leads);
      costed = costed_refused at later command reason count cap some tellings tables scripts seen;
    }

-- Commands, as a measurer does them

-- an accepted command, behind which the document was measured
pub moves-edited : (at : Measurer) (later : Measurer) (command : Edit) (session : Standing) (before after : ℕ) → at.session.tree.pair_cap ≡ pair_cap_for at.session.plan →
    command_refusal at.session.tree command ≡ None → IsEdited at.session.tree.nodes command session.tree.nodes →
    session.plan ≡ at.session.plan → RunsDirty at.session.plan at.session.tree.nodes command session →
    later.session.plan ≡ session.plan → later.session.tree ≡ session.tree → later.script ≡ at.script →
    later.faulted ≡ (at.faulted || is_some (first_fault session.plan session.tree.nodes)) →
    RoseFor (next_cost session) before after (shows session.plan session.tree.nodes) →
    (number : ℕ) (seen : Shown) → at.faulted ≡ is_fault seen → MovesTo (in_front_of command (place_at at number seen)) later before after
moves-edited at later command session before after cap none makes plan dirty plans trees scripts faulted rose number seen is = record {
  number = number + 1;
  seen = then_shown seen (shows session.plan session.tree.nodes);
  moved = moved-edited (place_at at number seen) (place_at later (number + 1) (then_shown seen (shows session.plan session.tree.nodes))) command (document_of session) before after
      cap none makes (ap by_plan plan) (leaves-dirty at.session command session plan dirty) (ap by_plan plans) trees refl (ap script_left scripts) refl rose;
  faulted = faulted ∙ ap (λ (b : Bool). b || is_some (first_fault session.plan session.tree.nodes)) is
      ∙ ap (λ (b : Bool). is_fault seen || b) (sym (shows-fault session.plan session.tree.nodes))
      ∙ sym (then-fault seen (shows session.plan session.tree.nodes));
}

-- where it was
pub moves-measured : (at later : Measurer) (command : Edit) (session : Standing) (before after : ℕ) (result : Result (Unit {0}) Stop) → at.session.tree.pair_cap ≡ pair_cap_for at.session.plan →
    command_refusal at.session.tree command ≡ None → IsEdited at.session.tree.nodes command session.tree.nodes →
    session.plan ≡ at.session.plan → RunsDirty at.session.plan at.session.tree.nodes command session →
    later.session.plan ≡ session.plan → later.session.tree ≡ session.tree → later.script ≡ at.script →
    OnOk result (later.faulted ≡ (at.faulted || is_some (first_fault session.plan session.tree.nodes))) →
    OnOk result (RoseFor (next_cost session) before after (shows session.plan session.tree.nodes)) →
    OnOk result ((number : ℕ) (seen : Shown) → at.faulted ≡ is_fault seen → MovesTo (in_front_of command (place_at at number seen)) later before after)
moves-measured at later command session before after (Ok done) cap none makes plan dirty plans trees scripts faulted rose =
    moves-edited at later command session before after cap none makes plan dirty plans trees scripts faulted rose
moves-measured at later command session before after (Err stop) cap none makes plan dirty plans trees scripts faulted rose = tt

pub moves-refused : (at later : Measurer) (command : Edit) (reason : EditRefusal) (count : ℕ) → at.session.tree.pair_cap ≡ pair_cap_for at.session.plan →
    command_refusal at.session.tree command ≡ Some reason → later.session ≡ at.session → later.script ≡ at.script → later.faulted ≡ at.faulted →
    (number : ℕ) (seen : Shown) → at.faulted ≡ is_fault seen → MovesTo (in_front_of command (place_at at number seen)) later count count
moves-refused at later command reason count cap some sessions scripts faulted number seen is = record {
  number = number + 1;
  seen = seen;
  moved = moved-refused (place_at at number seen) (place_at later (number + 1) seen) command reason count cap some (ap document_of sessions) refl (ap script_left scripts) refl;
  faulted = faulted ∙ is;
}

-- The commands one after another

-- the measurer stands in front of a command that it then did
pub moves-next : (first at later : Measurer) (mid : Script) (next : Option Edit) (command : Edit) (before start after : ℕ) (number : ℕ) (seen : Shown) →
    next ≡ Some command → IfSome next (λ c. script_left at.script ≡ onto c mid) → MovesTo (place_at first number seen) at before start →
    ((k : ℕ) (s : Shown) → at.faulted ≡ is_fault s → MovesTo (in_front_of command (record (place_at at k s) { script = mid })) later start after) →
    MovesTo (place_at first number seen) later before after
moves-next first at later mid next command before start after number seen is says so_far on =
    let more = on so_far.number so_far.seen so_far.faulted in
    record {
      number = more.number;
      seen = more.seen;
      moved = moved-on (place_at first number seen) (in_front_of command (record (place_at at so_far.number so_far.seen) { script = mid })) (place_at later more.number more.seen) before start after
          (moved-to-next (place_at first number seen) (place_at at so_far.number so_far.seen) mid next command before start is says so_far.moved) more.moved;
      faulted = more.faulted;
    }

-- the script has a fault, or memory runs out in front of a command
pub stops-there : (first at later : Measurer) (before after : ℕ) (number : ℕ) (seen : Shown) (error : ScriptError) (stop : Stop) (result : Result (Unit {0}) Stop) → result ≡ Err stop → stop ≡ of_script error →
    IfFault (λ found. script_left at.script ≡ stops found) error → HasCost (document_of at.session) (script_left at.script) → MovesTo (place_at first number seen) at before after →
    RestMeasured (place_at first number seen) later before after result
stops-there first at later before after number seen error stop result is says found costs so_far =
    let there = place_at at so_far.number so_far.seen in
    subst (RestMeasured (place_at first number seen) later before after) (sym is)
    (error, says, by error found, ahead_on (place_at first number seen) there before after after so_far.moved.costed (ahead_none there after costs))
  where
    by : (error : ScriptError) → IfFault (λ found. script_left at.script ≡ stops found) error → IfFault (StopsAt (place_at first number seen) before after) error
    by (script.Fault fault) found = record { later = place_at at so_far.number so_far.seen; moved = so_far.moved; stopped = found }
    by script.Memory found = tt

-- memory runs out at a command
pub stops-for-memory : (first at later : Measurer) (mid : Script) (next : Option Edit) (command : Edit) (before start after : ℕ) (number : ℕ) (seen : Shown) (stop : Stop) (result : Result (Unit {0}) Stop) →
    result ≡ Err stop → stop ≡ Memory → next ≡ Some command → IfSome next (λ c. script_left at.script ≡ onto c mid) → MovesTo (place_at first number seen) at before start →
    CountsAtMost (ScriptCost (document_of at.session) (onto command mid)) start after → RestMeasured (place_at first number seen) later before after result
stops-for-memory first at later mid next command before start after number seen stop result is memory some says so_far ahead =
    let there = place_at at so_far.number so_far.seen in
    subst (RestMeasured (place_at first number seen) later before after) (sym is) (
      script.Memory,
      memory,
      tt,
      ahead_on (place_at first number seen) (in_front_of command (record there { script = mid })) before start after
          (costed_to_next (place_at first number seen) there mid next command before start some says so_far.moved.costed) ahead,
    )

-- the script in front of a command that is next has its visits
pub costs-next : (session : Document) (script mid : Script) (next : Option Edit) (command : Edit) → next ≡ Some command → IfSome next (λ c. script ≡ onto c mid) → HasCost session script →
    HasCost session (onto command mid)
costs-next session script mid next command is says = subst (HasCost session) (next_command next command script mid is says)

-- The whole

-- what comes of following the script, once it was gone through or has a fault
module _ (plan : Plan) (T : Table) (bytes : List ℕ) (first : Place) (place : IsPlace first (by_plan plan) T 1 (script_of bytes)) (seen : first.seen ≡ shows plan T) where
  followed : (later : Place) (before after : ℕ) (moved : Moved first later before after) (output : Output) → Ending later output → States (by_plan plan) 0 T bytes (in_front (state_text plan T) (in_front moved.text output))
  followed later before after moved output ends = (
    in_front moved.text output,
    follows-alone (by_plan plan) T 1 (shows plan T) (script_of bytes) (in_front moved.text output)
        (follows_same first.session.telling (by_plan plan) first.session.tree.nodes T first.number 1 first.seen (shows plan T) first.script (script_of bytes) (in_front moved.text output)
        place.telling_is place.tree_is place.number_is seen place.rest_is (moved.led.ends output ends)),
    refl,
  )

  led-to : (later : Place) (before after : ℕ) (moved : Moved first later before after) → LeadsTo later.session.telling later.session.tree.nodes later.script later.session.tree.nodes →
      LeadsTo (by_plan plan) T (script_of bytes) later.session.tree.nodes
  led-to later before after moved leads =
      leads-same first.session.telling (by_plan plan) first.session.tree.nodes T later.session.tree.nodes first.script (script_of bytes) place.telling_is place.tree_is place.rest_is
      (moved.leads later.session.tree.nodes leads)

  -- the script was gone through
  pub measure-told : (later : Place) (before after : ℕ) (old new : SinkLog) (faulted : Bool) (a b : Measured) (result : Result Shown Stop) → Moved first later before after → later.script ≡ nothing →
      faulted ≡ is_fault later.seen → a ≡ measured_of plan T → b ≡ measured_of plan later.session.tree.nodes →
      ConcludesMeasure faulted old new (text_of_both a b) result → Concludes (Measures plan T bytes) (λ _. ⊥) (MeasuresText plan T bytes) (Appends old.written new.written) result
  measure-told later before after old new faulted a b result moved none is a_is b_is concludes =
      by later.seen
      (record {
        followed = _;
        states = followed later before after moved (ended [] later.seen)
            (subst (λ (s : Script). Follows later.session.telling later.session.tree.nodes later.number later.seen s (ended [] later.seen)) (sym none)
            (comes_to_end later.session.tree.nodes later.number later.seen));
        last = later.session.tree.nodes;
        leads = led-to later before after moved
            (subst (λ (s : Script). LeadsTo later.session.telling later.session.tree.nodes s later.session.tree.nodes) (sym none) (to_the_end later.session.tree.nodes));
        is = refl;
      })
      (subst (λ (t : Bool). ConcludesMeasure t old new text result) is (subst (λ (t : List ℕ). ConcludesMeasure faulted old new t result) text_is concludes))
    where
      text : List ℕ
      text = measure_text plan T later.session.tree.nodes

      text_is : text_of_both a b ≡ text
      text_is = ap (λ (m : Measured). text_of_both m b) a_is
          ∙ ap (text_of_both (measured_of plan T)) b_is

      by : (shown : Shown) → Measures plan T bytes (measured_as (status_shown shown) text (in_front (state_text plan T) (in_front moved.text (ended [] shown)))) →
          ConcludesMeasure (is_fault shown) old new text result → Concludes (Measures plan T bytes) (λ _. ⊥) (MeasuresText plan T bytes) (Appends old.written new.written) result
      by Clean measures ends = text_ends (Measures plan T bytes) (λ _. ⊥) (MeasuresText plan T bytes) old new text Clean measures (ended text Clean, measures, refl) result ends.0 ends.1
      by Findings measures ends = text_ends (Measures plan T bytes) (λ _. ⊥) (MeasuresText plan T bytes) old new text Clean measures (ended text Clean, measures, refl) result ends.0 ends.1
      by Fault measures ends = subst (Concludes (Measures plan T bytes) (λ _. ⊥) (MeasuresText plan T bytes) (Appends old.written new.written)) (sym ends.0) (record {
        output = measured_as status.Faulted text (in_front (state_text plan T) (in_front moved.text (ended [] Fault)));
        may_be = measures;
        ends_so = refl;
        err_is = refl;
        out = subst (λ (log : SinkLog). Appends old.written log.written []) (sym ends.1) (Appends-nil old.written);
      })

  -- the script has a fault, or memory ran out
  pub measure-stopped : (before after : ℕ) (log : SinkLog) (error : ScriptError) (stop : Stop) (result : Result Shown Stop) → result ≡ Err stop → stop ≡ of_script error →
      IfFault (StopsAt first before after) error → Concludes (Measures plan T bytes) (λ _. ⊥) (MeasuresText plan T bytes) (Appends log.written log.written) result
  measure-stopped before after log error stop result is says found =
      subst (Concludes (Measures plan T bytes) (λ _. ⊥) (MeasuresText plan T bytes) (Appends log.written log.written)) (sym (is ∙ ap Err says)) (by error found)
    where
      by : (error : ScriptError) → IfFault (StopsAt first before after) error → Concludes (Measures plan T bytes) (λ _. ⊥) (MeasuresText plan T bytes) (Appends log.written log.written) (Err (of_script error))
      by (script.Fault fault) at = record {
        output = measured_as status.ScriptRefused (measure_text plan T at.later.session.tree.nodes)
            (in_front (state_text plan T) (in_front at.moved.text (stopped_by (ScriptRefused (refusal.Faulted fault)))));
        may_be = record {
          followed = _;
          states = followed at.later before after at.moved (stopped_by (ScriptRefused (refusal.Faulted fault)))
              (subst (λ (s : Script). Follows at.later.session.telling at.later.session.tree.nodes at.later.number at.later.seen s (stopped_by (ScriptRefused (refusal.Faulted fault)))) (sym at.stopped)
              (stops_at at.later.session.tree.nodes at.later.number at.later.seen fault));
          last = at.later.session.tree.nodes;
          leads = led-to at.later before after at.moved
              (subst (λ (s : Script). LeadsTo at.later.session.telling at.later.session.tree.nodes s at.later.session.tree.nodes) (sym at.stopped) (to_a_fault at.later.session.tree.nodes fault));
          is = refl;
        };
        ends_so = refl;
        err_is = refl;
        out = Appends-nil log.written;
      }
      by script.Memory none = inl (Appends-nil log.written)

-- memory ran out before anything was written
pub without-memory : (P : Output → Type 0) (Q : List ℕ → Type 0) (log : SinkLog) (stop : Stop) (result : Result Shown Stop) → result ≡ Err stop → stop ≡ Memory →
    Concludes P (λ _. ⊥) Q (Appends log.written log.written) result
without-memory P Q log stop result is memory = subst (Concludes P (λ _. ⊥) Q (Appends log.written log.written)) (sym (is ∙ ap Err memory)) (inl (Appends-nil log.written))

-- what was measured to the end of the script is counted, also where a write failed
pub counts-end : (costs : ℕ → Type 0) (before after : ℕ) (seen : Shown) (faulted : Bool) (old new : SinkLog) (text : List ℕ) (result : Result Shown Stop) → CountsAlong costs before after (Ok seen) → faulted ≡ is_fault seen →
    ConcludesMeasure faulted old new text result → CountsAlong costs before after result
counts-end costs before after seen faulted old new text result counts is concludes = by seen counts (subst (λ (t : Bool). ConcludesMeasure t old new text result) is concludes)
  where
    clean : (result : Result Shown Stop) → CountsAlong costs before after (Ok Clean) → IfOk result (λ last. last ≡ Clean) → CountsAlong costs before after result
    clean (Ok last) counts last_is = subst (λ (s : Shown). CountsAlong costs before after (Ok s)) (sym last_is) counts
    clean (Err stop) counts last_is = (counts.0, counts.1, counts.2.at_most)

    by : (seen : Shown) → CountsAlong costs before after (Ok seen) → ConcludesMeasure (is_fault seen) old new text result → CountsAlong costs before after result
    by Clean counts ends = clean result counts ends.1
    by Findings counts ends =
        clean result (counts.0, counts.1, record { at_most = counts.2.at_most; exactly = λ whole. counts.2.exactly (λ is. true≢false (sym (ap is_fault is))) }) ends.1
    by Fault counts ends = subst (CountsAlong costs before after) (sym ends.0) counts

-- a run that concludes so has written what it has to write
pub concludes-writing : (faulted : Bool) (old new : SinkLog) (text : List ℕ) (result : Result Shown Stop) → ConcludesMeasure faulted old new text result → IfErr result IsOfWriting
concludes-writing true old new text result ends = subst (λ (r : Result Shown Stop). IfErr r IsOfWriting) (sym ends.0) tt
concludes-writing false old new text result ends = ends.0.writing

pub concludes-faults : (faulted : Bool) (old new : SinkLog) (text : List ℕ) (result : Result Shown Stop) → ConcludesMeasure faulted old new text result →
    new.faults ≡ counted_if (ends_with status.WriteFault result) old.faults
concludes-faults true old new text result ends =
    ap (λ (log : SinkLog). log.faults) ends.1 ∙ sym (ap (λ (r : Result Shown Stop). counted_if (ends_with status.WriteFault r) old.faults) ends.0)
concludes-faults false old new text result ends = ends.0.faults

-- what is loaded of a shelf that holds the texts is what is made for a measure
pub made-from : (state : ShelfState) (items : ℕ) (files : Files) (phase schema document name : List ℕ) (result : Result Scripted Stop) → files ≡ measure_files items → phase ≡ default_phase →
    schema ≡ SCHEMA_NAME.now → document ≡ DOCUMENT_NAME.now → name ≡ SCRIPT_NAME.now →
    IfOk result (λ scripted. (opened : List (List ℕ)) × OpeningAll files phase schema document name opened (goes (scripted_by scripted))) → IfErr result (λ stop. stop ≡ Memory) →
    Reads state state [] (λ files. Making items) scripted_by result
made-from state items files phase schema document name (Ok scripted) files_is phase_is schema_is document_is name_is loaded memory =
    reads_none state (λ files. Making items) scripted_by scripted (λ any. (
      refl,
      loaded.0,
      subst (λ (n : List ℕ). OpeningAll (measure_files items) default_phase SCHEMA_NAME.now DOCUMENT_NAME.now n loaded.0 (goes (scripted_by scripted))) name_is
          (subst (λ (d : List ℕ). OpeningAll (measure_files items) default_phase SCHEMA_NAME.now d name loaded.0 (goes (scripted_by scripted))) document_is
          (subst (λ (s : List ℕ). OpeningAll (measure_files items) default_phase s document name loaded.0 (goes (scripted_by scripted))) schema_is
          (subst (λ (p : List ℕ). OpeningAll (measure_files items) p schema document name loaded.0 (goes (scripted_by scripted))) phase_is
          (subst (λ (f : Files). OpeningAll f phase schema document name loaded.0 (goes (scripted_by scripted))) files_is loaded.1)))),
    ))
made-from state items files phase schema document name (Err stop) files_is phase_is schema_is document_is name_is loaded memory =
    reads_nothing state [] (λ files. Making items) scripted_by (Err stop) stop refl memory

abbrev measured-with : ℕ → Counts → Measured
measured-with nodes counts = record { nodes = nodes; counts = counts }

-- what is measured of a document, part by part
pub measured-as : (plan : Plan) (T : Table) (nodes : ℕ) (counts : Counts) → nodes ≡ length (order T) → counts ≡ counts_of plan T →
    measured-with nodes counts ≡ measured_of plan T
measured-as plan T nodes counts nodes_is counts_is = ap (λ (n : ℕ). measured-with n counts) nodes_is ∙ ap (measured-with (length (order T))) counts_is

-- and what it costs
pub rose-counting : (session : Standing) (before after : ℕ) (counts : Counts) → counts ≡ counts_of session.plan session.tree.nodes → after ≤ before + next_cost session →
    (counts.faulted ≡ false → after ≡ before + next_cost session) → RoseFor (next_cost session) before after (shows session.plan session.tree.nodes)
rose-counting session before after counts is at_most exactly = record {
  at_most = at_most;
  exactly = λ whole. exactly (ap (λ (c : Counts). c.faulted) is ∙ sym (shows-fault session.plan session.tree.nodes) ∙ not-shown (shows session.plan session.tree.nodes) whole);
}
  where
    not-shown : (s : Shown) → (s ≡ Fault → ⊥) → is_fault s ≡ false
    not-shown Clean whole = refl
    not-shown Findings whole = refl
    not-shown Fault whole = absurd (whole refl)

-- a measurer behind a command that was done is under way, and so is one behind one that changed nothing
pub under-way : (at later : Measurer) (session : Standing) (result : Result (Unit {0}) Stop) → IsUnderWay at → session.tree.pair_cap ≡ at.session.tree.pair_cap → session.plan ≡ at.session.plan →
    later.session.plan ≡ session.plan → later.session.tree ≡ session.tree → OnOk result (IsEvaluated later.session) →
    OnOk result (later.last ≡ measured_of session.plan session.tree.nodes) → OnOk result (IsUnderWay later)
under-way at later session (Ok done) ready caps plan plans trees fresh last = record {
  cap = ap (λ (tree : Contents). tree.pair_cap) trees ∙ caps ∙ ready.cap ∙ ap pair_cap_for (sym (plans ∙ plan));
  fresh = fresh;
  last = last ∙ ap (λ (p : Plan). measured_of p session.tree.nodes) (sym plans) ∙ ap (λ (tree : Contents). measured_of later.session.plan tree.nodes) (sym trees);
}
under-way at later session (Err stop) ready caps plan plans trees fresh last = tt

pub under-way-same : (at later : Measurer) → IsUnderWay at → later.session ≡ at.session → later.last ≡ at.last → IsUnderWay later
under-way-same at later ready sessions lasts = record {
  cap = ap (λ (s : Standing). s.tree.pair_cap) sessions ∙ ready.cap ∙ ap (λ (s : Standing). pair_cap_for s.plan) (sym sessions);
  fresh = subst IsEvaluated (sym sessions) ready.fresh;
  last = lasts ∙ ready.last ∙ ap (λ (s : Standing). measured_of s.plan s.tree.nodes) (sym sessions);
}

-- no command was done yet
pub begins-there : (at : Measurer) (count number : ℕ) (seen : Shown) → at.faulted ≡ is_fault seen → MovesTo (place_at at number seen) at count count
begins-there at count number seen is = record { number = number; seen = seen; moved = not-moved (place_at at number seen) count; faulted = is }

-- the script is at its end
pub ends-there : (earlier : Place) (at : Measurer) (left : LinesLeft) (before after : ℕ) (next : Option Edit) → ((command : Edit) → next ≡ Some command → ⊥) →
    IfNone next ((script_left at.script ≡ nothing) × (left ≡ at.script)) → MovesTo earlier at before after →
    MovesTo earlier (record at { script = left }) before after × (script_left left ≡ nothing)
ends-there earlier at left before after None none says come =
    subst (λ (lines : LinesLeft). MovesTo earlier (record at { script = lines }) before after × (script_left lines ≡ nothing)) (sym says.1) (come, says.0)
ends-there earlier at left before after (Some command) none says come = absurd (none command refl)
