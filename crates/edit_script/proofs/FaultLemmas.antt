-- The fault of a text stands in one of its lines, or in the line after its last.
use Rattle.std.proofs.Common.{◌≡◌, ℕ, suc, ◌+◌, ◌<◌, ◌≤◌, ◌^◌, List, [], ◌∷◌, ◌++◌, length, Option, None, Some, Result, Ok, Err, IfSome, arith, sym, subst, length-append}
use Rattle.pyx_core.specs.declared.fault.PyxFault.{PyxFault}
use Rattle.pyx_core.specs.declared.fault.PyxKind.{PyxKind}
use Rattle.pyx_core.specs.declared.line_table.Line.{Line}
use Rattle.pyx_core.specs.declared.mode.Mode.{Mode}
use Rattle.pyx_core.specs.declared.mode.Mode.TheVariants.{Fragment}
use Rattle.pyx_core.specs.Before.{lacking}
use Rattle.pyx_core.specs.Lines.{ended_lines, unended}
use Rattle.pyx_core.specs.Reading.{Judged, and_then, end_fault, fault_of, in_all, judge, judged, or_lacking}
use Rattle.pyx_core.proofs.LinesLemmas.{few_ended}

-- the fault, if there is one, stands in no line behind the one with this number
abbrev pub IsNear : ℕ → Option PyxFault → Type 0
IsNear last None = Unit {0}
IsNear last (Some found) = found.line ≤ last

record Near (last : ℕ) (found : Judged) : Type 0 where
  lines : length found.before ≤ last
  fault : IsNear last found.fault

near_by : (last : ℕ) (before : List Line) (found : Result Line PyxKind) (next : Line → Judged) → suc (length before) ≤ last →
    ((line : Line) → Near last (next line)) → Near last (and_then before found next)
near_by last before (Ok line) next less rest = rest line
near_by last before (Err kind) next less rest = record { lines = omega arith; fault = less }

near_judged : (mode : Mode) (lines : List (List ℕ)) (before : List Line) (last : ℕ) → length before + length lines ≤ last →
    Near last (judged mode before lines)
near_judged mode [] before last less = record { lines = omega arith; fault = tt }
near_judged mode (bytes ∷ lines) before last less =
    near_by last before (judge mode before bytes) (λ line. judged mode (line ∷ before) lines) (omega arith)
    (λ line. near_judged mode lines (line ∷ before) last (omega arith))

near_end : (last : ℕ) (before : List Line) (kind : Option PyxKind) → length before ≤ last → IsNear last (end_fault before kind)
near_end last before None less = tt
near_end last before (Some kind) less = less

near_or : (mode : Mode) (last : ℕ) (before : List Line) (fault : Option PyxFault) → length before ≤ last → IsNear last fault →
    IsNear last (or_lacking mode before fault)
near_or mode last before None less near = near_end last before (lacking mode before) less
near_or mode last before (Some found) less near = near

pub fault_near : (mode : Mode) (bytes : List ℕ) → IsNear (suc (length bytes)) (fault_of mode bytes)
fault_near mode bytes =
    let few : 0 + length (ended_lines bytes ++ unended bytes ∷ []) ≤ suc (length bytes) =
    omega (arith, few_ended bytes, length-append (ended_lines bytes) (unended bytes ∷ [])) in
    let near = near_judged mode (ended_lines bytes ++ unended bytes ∷ []) [] (suc (length bytes)) few in
    near_or mode (suc (length bytes)) (in_all mode bytes).before (in_all mode bytes).fault near.lines near.fault

-- a line number is small enough for the fault to have one
pub near_fault : (number : ℕ) (text : List ℕ) (found : Option PyxFault) → found ≡ fault_of Fragment text →
    number + suc (length text) < 2 ^ 64 → IfSome found (λ fault. number + fault.line < 2 ^ 64)
near_fault number text None is less = tt
near_fault number text (Some fault) is less =
    let near : fault.line ≤ suc (length text) = subst (IsNear (suc (length text))) (sym is) (fault_near Fragment text) in
    omega (arith, near, less)
