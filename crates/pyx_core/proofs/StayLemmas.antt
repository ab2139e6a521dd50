-- Faults and completed events stay.
use Rattle.std.proofs.Common.{◌≡◌, ℕ, List, [], ◌∷◌, ◌++◌, Option, None, Some, refl, sym, ◌∙◌, ap, append_assoc}
use Rattle.std.specs.Option.{option_to_list}
use Rattle.std.proofs.lemmas.List.{append-nil}
use Rattle.pyx_core.specs.declared.fault.PyxFault.{PyxFault}
use Rattle.pyx_core.specs.declared.mode.Mode.{Mode}
use Rattle.pyx_core.specs.Before.{closed, pending}
use Rattle.pyx_core.specs.Lines.{ended_lines, unended}
use Rattle.pyx_core.specs.Reading.{Judged, judged, so_far, in_all, completed, FaultsStay, CompletedEventsStay}
use Rattle.pyx_core.specs.Fronts.{IsFront}
use Rattle.pyx_core.proofs.LinesLemmas.{ended_append}
use Rattle.pyx_core.proofs.JudgeLemmas.{judged_stopped, judged_append, unless_fault, closed_front}
use Rattle.pyx_core.proofs.ReaderLemmas.{fault_stays}
use Rattle.pyx_core.proofs.BegunLemmas.{front_more}

so_far_stays : (mode : Mode) (bytes more : List ℕ) (fault : PyxFault) → (so_far mode bytes).fault ≡ Some fault →
    so_far mode (bytes ++ more) ≡ so_far mode bytes
so_far_stays mode bytes more fault is =
    ap (judged mode []) (ended_append bytes more)
    ∙ judged_stopped mode (ended_lines bytes) (ended_lines (unended bytes ++ more)) [] fault is

pub stays : FaultsStay
stays mode bytes more fault is =
    let same = so_far_stays mode bytes more fault is in
    let here = ap (λ j. j.fault) same ∙ is in
    record {
      so_far = here;
      in_all = fault_stays mode (bytes ++ more) fault here;
      events = ap (λ j. closed mode j.before) same;
    }

-- what more lines complete comes after
more_lines : (mode : Mode) (found : Judged) (fault : Option PyxFault) (lines : List (List ℕ)) → found.fault ≡ fault →
    IsFront (closed mode found.before) (closed mode (unless_fault mode found.before fault lines).before)
more_lines mode found None lines is = closed_front mode found.before lines
more_lines mode found (Some fault) lines is = record { later = []; is = sym (append-nil (closed mode found.before)) }

longer : (mode : Mode) (lines more : List (List ℕ)) →
    IsFront (closed mode (judged mode [] lines).before) (closed mode (judged mode [] (lines ++ more)).before)
longer mode lines more = rw (judged_append mode [] lines more)
    (more_lines mode (judged mode [] lines) (judged mode [] lines).fault more refl)

pub completed_stays : CompletedEventsStay
completed_stays mode bytes more =
    let front = longer mode (ended_lines bytes) (ended_lines (unended bytes ++ more)) in
    let so_far_front : IsFront (completed mode bytes) (completed mode (bytes ++ more)) = rw (ended_append bytes more) front in
    let all = longer mode (ended_lines bytes) (ended_lines (unended bytes ++ more) ++ unended (bytes ++ more) ∷ []) in
    let lines : ended_lines (bytes ++ more) ++ unended (bytes ++ more) ∷ []
    ≡ ended_lines bytes ++ (ended_lines (unended bytes ++ more) ++ unended (bytes ++ more) ∷ []) =
    ap (λ l. l ++ unended (bytes ++ more) ∷ []) (ended_append bytes more)
    ∙ append_assoc (ended_lines bytes) (ended_lines (unended bytes ++ more)) (unended (bytes ++ more) ∷ []) in
    let all_front : IsFront (completed mode bytes) (closed mode (in_all mode (bytes ++ more)).before) =
    rw lines all in
    let whole = front_more _ _ (option_to_list (pending mode (in_all mode (bytes ++ more)).before)) all_front in
    record {
      so_far = (so_far_front.later, so_far_front.is);
      in_all = λ good. (whole.later, whole.is);
    }
