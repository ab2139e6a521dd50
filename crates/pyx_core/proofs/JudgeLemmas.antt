-- Lines judged in turn.
use Rattle.std.proofs.Common.{◌≡◌, ℕ, suc, ◌+◌, List, [], ◌∷◌, ◌++◌, length, Option, None, Some, Result, Ok, Err, arith, refl, sym, ◌∙◌, ap, append_assoc}
use Rattle.std.proofs.lemmas.List.{append-nil}
use Rattle.pyx_core.specs.declared.event.Located.{Located}
use Rattle.pyx_core.specs.declared.fault.PyxFault.{PyxFault}
use Rattle.pyx_core.specs.declared.fault.PyxKind.{PyxKind}
use Rattle.pyx_core.specs.declared.line_table.Line.{Line}
use Rattle.pyx_core.specs.declared.mode.Mode.{Mode}
use Rattle.pyx_core.specs.Before.{closed, completed_by}
use Rattle.pyx_core.specs.Reading.{Judged, judge, judged, and_then, sound, fault_in}
use Rattle.pyx_core.specs.Fronts.{IsFront}

-- lines after others are judged where no fault came before
abbrev pub unless_fault : Mode → List Line → Option PyxFault → List (List ℕ) → Judged
unless_fault mode before None lines = judged mode before lines
unless_fault mode before (Some fault) lines = record { before = before; fault = Some fault }

behind_line : (mode : Mode) (before : List Line) (found : Result Line PyxKind) (lines more : List (List ℕ)) →
    ((line : Line) → judged mode (line ∷ before) (lines ++ more)
    ≡ unless_fault mode (judged mode (line ∷ before) lines).before (judged mode (line ∷ before) lines).fault more) →
    and_then before found (λ line. judged mode (line ∷ before) (lines ++ more))
    ≡ unless_fault mode (and_then before found (λ line. judged mode (line ∷ before) lines)).before
    (and_then before found (λ line. judged mode (line ∷ before) lines)).fault more
behind_line mode before (Ok line) lines more rest = rest line
behind_line mode before (Err kind) lines more rest = refl

pub judged_append : (mode : Mode) (before : List Line) (lines more : List (List ℕ)) →
    judged mode before (lines ++ more) ≡ unless_fault mode (judged mode before lines).before (judged mode before lines).fault more
judged_append mode before [] more = refl
judged_append mode before (bytes ∷ lines) more =
    behind_line mode before (judge mode before bytes) lines more (λ line. judged_append mode (line ∷ before) lines more)

-- after good lines
pub judged_behind : (mode : Mode) (lines more : List (List ℕ)) (before good : List Line) → judged mode before lines ≡ sound good →
    judged mode before (lines ++ more) ≡ judged mode good more
judged_behind mode lines more before good is = judged_append mode before lines more ∙ rw is refl

-- after a fault
whole : (found : Judged) (fault : PyxFault) → found.fault ≡ Some fault → found ≡ record { before = found.before; fault = Some fault }
whole found fault is = ap (λ f. record { before = found.before; fault = f }) is

pub judged_stopped : (mode : Mode) (lines more : List (List ℕ)) (before : List Line) (fault : PyxFault) →
    (judged mode before lines).fault ≡ Some fault → judged mode before (lines ++ more) ≡ judged mode before lines
judged_stopped mode lines more before fault is =
    judged_append mode before lines more ∙ (rw is refl ∙ sym (whole (judged mode before lines) fault is))

-- what good lines complete stays completed
closed_line : (mode : Mode) (before : List Line) (found : Result Line PyxKind) (lines : List (List ℕ)) →
    ((line : Line) → IsFront (closed mode (line ∷ before)) (closed mode (judged mode (line ∷ before) lines).before)) →
    IsFront (closed mode before) (closed mode (and_then before found (λ line. judged mode (line ∷ before) lines)).before)
closed_line mode before (Ok line) lines rest = record {
  later = completed_by mode before line ++ (rest line).later;
  is = (rest line).is ∙ append_assoc (closed mode before) (completed_by mode before line) (rest line).later;
}
closed_line mode before (Err kind) lines rest = record { later = []; is = sym (append-nil (closed mode before)) }

pub closed_front : (mode : Mode) (before : List Line) (lines : List (List ℕ)) →
    IsFront (closed mode before) (closed mode (judged mode before lines).before)
closed_front mode before [] = record { later = []; is = sym (append-nil (closed mode before)) }
closed_front mode before (bytes ∷ lines) =
    closed_line mode before (judge mode before bytes) lines (λ line. closed_front mode (line ∷ before) lines)

pub front_trans : (xs ys zs : List Located) → IsFront xs ys → IsFront ys zs → IsFront xs zs
front_trans xs ys zs first next = record {
  later = first.later ++ next.later;
  is = next.is ∙ (ap (λ l. l ++ next.later) first.is ∙ append_assoc xs first.later next.later);
}

-- good lines are as many as were judged
count_line : (mode : Mode) (before : List Line) (found : Result Line PyxKind) (lines : List (List ℕ)) (good : List Line) →
    ((line : Line) → judged mode (line ∷ before) lines ≡ sound good → length good ≡ length lines + length (line ∷ before)) →
    and_then before found (λ line. judged mode (line ∷ before) lines) ≡ sound good →
    length good ≡ suc (length lines) + length before
count_line mode before (Ok line) lines good rest is = let all = rest line is in omega arith
count_line mode before (Err kind) lines good rest is =
    let f : Some (fault_in (suc (length before)) kind) ≡ None = ap (λ j. j.fault) is in absurd (cc)

pub count_good : (mode : Mode) (before : List Line) (lines : List (List ℕ)) (good : List Line) →
    judged mode before lines ≡ sound good → length good ≡ length lines + length before
count_good mode before [] good is =
    let same : before ≡ good = ap (λ j. j.before) is in rw same (omega arith)
count_good mode before (bytes ∷ lines) good is =
    count_line mode before (judge mode before bytes) lines good (λ line. count_good mode (line ∷ before) lines good) is
