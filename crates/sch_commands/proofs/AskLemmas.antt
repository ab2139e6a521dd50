-- What the words ask for ends as their command does.
use Rattle.std.proofs.Common.{◌≡◌, ◌↔◌, ℕ, inr, true, false, List, [], append-nil, IfOk, Option, None, Some, MatchOption, Result, Ok, Err, refl, ap, sym, subst, ◌∙◌, arith}
use Rattle.std.proofs.KnownBytes.{Appends-nil}
use Rattle.sch_io.proofs.ReadThrough.{nothing_through}
use Rattle.sch_io.specs.ShelfState.{ShelfState}
use Rattle.sch_io.specs.SinkLog.{SinkLog}
use Rattle.sch_undo.specs.shown.Shown.{Shown}
use Rattle.sch_undo.specs.shown.Shown.TheVariants as shown
use Rattle.sch_words.specs.declared.command.Command.{Command as Borrowed}
use Rattle.sch_words.specs.declared.notice.Notice.{Notice}
use Rattle.sch_words.specs.declared.status.Status.TheVariants as status
use Rattle.sch_stops.specs.declared.stop.Stop.{Stop}
use Rattle.sch_stops.specs.declared.stop.Stop.TheVariants.{Usage}
use Rattle.sch_words.specs.Commands.{Command, command_of, tell}
use Rattle.sch_words.specs.Commands as commands
use Rattle.sch_words.specs.Notices.{notice_text}
use Rattle.sch_commands.specs.Output.{notice_output}
use Rattle.sch_commands.specs.Behaviours.{Any, asked_by, behaviour}
use Rattle.sch_stops.specs.Stops.{ends_with, is_status, status_of, stopped_by}
use Rattle.sch_loading.specs.Stages.{Is, goes, halts}
use Rattle.sch_commands.specs.Carried.{Carried, status_of_end}
use Rattle.sch_commands.specs.inner.Writing.{WroteText}
use Rattle.sch_commands.proofs.CarryLemmas.{carried}
use Rattle.sch_commands.proofs.EndLemmas.{text_behind}
use Rattle.sch_loading.proofs.PartLemmas.{reads_none}
use Rattle.sch_loading.proofs.StageLemmas.{halts-first}
use Rattle.sch_commands.proofs.StepLemmas.{none_counted}

-- the words ask for what the program's own command says
pub asks : (words : List (List ℕ)) (asked : Option Borrowed) (command : Borrowed) → MatchOption asked (command_of words ≡ None) (λ c. command_of words ≡ Some (commands.shown c)) → asked ≡ Some command →
    command_of words ≡ Some (commands.shown command)
asks words asked command says is = subst (λ (a : Option Borrowed). MatchOption a (command_of words ≡ None) (λ c. command_of words ≡ Some (commands.shown c))) is says

pub asks_nothing : (words : List (List ℕ)) (asked : Option Borrowed) → MatchOption asked (command_of words ≡ None) (λ c. command_of words ≡ Some (commands.shown c)) → asked ≡ None → command_of words ≡ None
asks_nothing words asked says is = subst (λ (a : Option Borrowed). MatchOption a (command_of words ≡ None) (λ c. command_of words ≡ Some (commands.shown c))) is says

-- words that are not accepted end the run
pub carries_nothing : (words : List (List ℕ)) (state : ShelfState) (log : SinkLog) (count : ℕ) → command_of words ≡ None → Carried (asked_by words) state state log log count count (Err Usage)
carries_nothing words state log count is = subst (λ (asked : Option Command). Carried (behaviour asked) state state log log count count (Err Usage)) (sym is) (record {
  held = refl;
  opened = [];
  noted = sym (append-nil state.opened);
  which = ([], [], refl, refl);
  whole = λ files told. record {
    output = stopped_by Usage;
    may_be = inr (halts-first (Is (halts (stopped_by Usage))) (λ written. Any (λ output. output ≡ written)) [] (stopped_by Usage) (refl, refl));
    ends_so = refl;
    err_is = refl;
    out = Appends-nil log.written;
  };
  counted = λ files told. refl;
  faults = refl;
  misses = refl;
  write_faults = refl;
  told = tt;
  through = nothing_through state;
  untouched = λ none. refl;
  unevaluated = λ none. refl;
  rises = omega arith;
})

-- how the command ends is how the run ends
pub carries : (words : List (List ℕ)) (command : Command) (old new : ShelfState) (log later : SinkLog) (before after : ℕ) (result : Result Shown Stop) → command_of words ≡ Some command →
    Carried (behaviour (Some command)) old new log later before after result → Carried (asked_by words) old new log later before after result
carries words command old new log later before after result is = subst (λ (asked : Option Command). Carried (behaviour asked) old new log later before after result) (sym is)

-- what a notice says is written
pub carries_notice : (notice : Notice) (state : ShelfState) (old new : SinkLog) (count : ℕ) (result : Result Shown Stop) → WroteText old new (notice_text notice) result → IfOk result (λ last. last ≡ shown.Clean) →
    Carried (behaviour (Some (tell notice))) state state old new count count result
carries_notice notice state old new count result wrote shows =
    carried [] (λ files. Is (goes (notice_output notice))) (λ (none : Unit {0}). notice_output notice) (λ written output. output ≡ written) (λ written text. text ≡ written.out) (λ written cost. cost ≡ 0) false
    state state old new count count tt result (reads_none state (λ files. Is (goes (notice_output notice))) (λ (none : Unit {0}). notice_output notice) tt (λ files. (refl, refl)))
    (text_behind (λ written output. output ≡ written) (λ written text. text ≡ written.out) (notice_output notice) old new (notice_text notice) shown.Clean refl refl result wrote shows
    (λ written cost. cost ≡ 0) false count count (none_counted count result) (λ idle. refl) (omega arith))

-- a run that ends so is not one whose words are refused
pub not_usage : (result : Result Shown Stop) → ends_with status.Usage result ≡ false → status_of_end result ≡ status.Usage → ⊥
not_usage (Ok shown.Clean) differs is = cc
not_usage (Ok shown.Findings) differs is = cc
not_usage (Ok shown.Fault) differs is = cc
not_usage (Err stop) differs is = let same : is_status status.Usage (status_of stop) ≡ true = ap (is_status status.Usage) is in cc

-- words that are accepted do not end the run as those that are not
pub accepted : (asked : Option Command) (command : Command) (result : Result Shown Stop) → asked ≡ Some command → ends_with status.Usage result ≡ false →
    (status_of_end result ≡ status.Usage) ↔ (asked ≡ None)
accepted asked command result is differs = (λ ends. absurd (not_usage result differs ends), λ none. absurd (let clash : Some command ≡ None = sym is ∙ none in cc))
