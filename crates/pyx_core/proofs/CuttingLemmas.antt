-- A text that comes in pieces, line by line.
use Rattle.std.proofs.Common.{◌≡◌, ℕ, suc, ◌+◌, ◌<◌, ◌-◌, true, false, List, [], ◌∷◌, ◌++◌, length, take, drop, get_or, Option, None, Some, Result, Ok, Err, arith, refl, sym, ◌∙◌, ap, add-one, length-append, length-drop}
use Rattle.std.specs.Result.{IsErr}
use Rattle.std.specs.declared.alloc.AllocError.{AllocError}
use Rattle.std.proofs.lemmas.Result.{MatchResult-from_err}
use Rattle.pyx_core.specs.declared.event.Located.{Located}
use Rattle.pyx_core.specs.declared.fault.PyxFault.{PyxFault}
use Rattle.pyx_core.specs.declared.fault.PyxKind.{PyxKind}
use Rattle.pyx_core.specs.declared.line_table.Line.{Line}
use Rattle.pyx_core.specs.declared.cutting.Cutting.{Cutting}
use Rattle.pyx_core.specs.declared.mode.Mode.{Mode}
use Rattle.pyx_core.specs.declared.standing.Standing.{Standing}
use Rattle.pyx_core.specs.Before.{closed, lacking}
use Rattle.pyx_core.specs.inner.Cutting.{StandsAt, Cuts, Keeps, FedTo, fault_if}
use Rattle.pyx_core.specs.Lines.{is_line_end, ended_lines, unended}
use Rattle.pyx_core.specs.Reading.{Judged, judge, judged, and_then, sound, so_far, in_all, completed, fault_of, events_unless, events_before_fault, fault_in, or_lacking, end_fault, ended}
use Rattle.pyx_core.specs.inner.Standing.{TakesLine, TakesGoodLast, TakesLast, Has}
use Rattle.pyx_core.specs.Fronts.{IsFront}
use Rattle.pyx_core.proofs.LinesLemmas.{has_end, none_ended, all_left, left_none, ended_append, left_append, any_none, half_ended, half_left, few_ended}
use Rattle.pyx_core.proofs.JudgeLemmas.{judged_behind, closed_front, front_trans, count_good}
use Rattle.pyx_core.proofs.LineLemmas.{NoEndBelow, first_line, behind_first, no_end, some_end}

-- a line that was taken ended
pub cuts_ok : (lines : Cutting) (mode : Mode) (taken : List Located) (before : List Line)
    (found : Result Line PyxKind) (kind : Option PyxKind) (number : ℕ) →
    TakesLine {E = AllocError} lines.standing mode taken before found (Ok kind) → lines.count ≡ number → lines.half.items ≡ [] →
    number ≡ suc (length before) → Cuts {E = AllocError} lines mode taken before found (Ok (fault_if number kind))
cuts_ok lines mode taken before (Ok line) kind number takes count half is = (
  ap (fault_if number) takes.0,
  record { reads = takes.1; count = count ∙ is; half_is = half },
)
cuts_ok lines mode taken before (Err rule) kind number takes count half is =
    (ap (fault_if number) takes.0 ∙ ap (λ n. Some (fault_in n rule)) is, takes.1.told.completed)

pub cuts_err : (lines : Cutting) (mode : Mode) (taken : List Located) (before : List Line)
    (found : Result Line PyxKind) (error : AllocError) (result : Result (Option PyxFault) AllocError) →
    TakesLine lines.standing mode taken before found (Err error) → IsErr result → Cuts lines mode taken before found result
cuts_err lines mode taken before (Ok line) error result takes err = MatchResult-from_err result _ _ err (λ _. takes)
cuts_err lines mode taken before (Err rule) error result takes err = MatchResult-from_err result _ _ err (λ _. takes)

-- of these bytes all but `rest` was read
pub record FeedsOn (lines : Cutting) (mode : Mode) (taken : List Located) (all rest : List ℕ) : Type 0 where
  pub before : List Line
  pub half : List ℕ
  pub stands : StandsAt lines mode taken before half
  pub plain : has_end half ≡ false
  pub lines_left : so_far mode all ≡ judged mode before (ended_lines (half ++ rest))
  pub half_left : unended all ≡ unended (half ++ rest)
  pub few : length before + length rest < 18446744073709551615
  pub few_all : length all < 18446744073709551615

pub feeds_start : (lines : Cutting) (mode : Mode) (taken : List Located) (fed piece : List ℕ) → Keeps lines mode fed taken →
    length (fed ++ piece) < 18446744073709551615 → FeedsOn lines mode taken (fed ++ piece) piece
feeds_start lines mode taken fed piece keeps few =
    let count = count_good mode [] (ended_lines fed) keeps.before keeps.good in
    let less = few_ended fed in
    let sum : length (fed ++ piece) ≡ length fed + length piece = length-append fed piece in
    record {
      before = keeps.before;
      half = unended fed;
      stands = keeps.stands;
      plain = left_none fed;
      lines_left = ap (judged mode []) (ended_append fed piece)
          ∙ judged_behind mode (ended_lines fed) (ended_lines (unended fed ++ piece)) [] keeps.before keeps.good;
      half_left = left_append fed piece;
      few = omega arith;
      few_all = few;
    }

-- `line` is the first line of a text, it ends at `end`, and `later` stands after its end
pub record FirstLine (bytes : List ℕ) (end : ℕ) (line later : List ℕ) : Type 0 where
  pub less : end < length bytes
  pub none : NoEndBelow bytes end
  pub is : is_line_end (get_or bytes end 0) ≡ true
  pub line_is : line ≡ take end bytes
  pub later_is : later ≡ drop (end + 1) bytes

-- the first line decides first
first_judged : (lines : Cutting) (mode : Mode) (taken : List Located) (all rest line later : List ℕ) (end : ℕ) →
    (on : FeedsOn lines mode taken all rest) → FirstLine rest end line later →
    so_far mode all ≡ and_then on.before (judge mode on.before (on.half ++ line)) (λ l. judged mode (l ∷ on.before) (ended_lines later))
first_judged lines mode taken all rest line later end on first =
    let lines_are : ended_lines rest ≡ line ∷ ended_lines later =
    rw (first.line_is, first.later_is, add-one) (first_line rest end first.less first.none first.is) in
    on.lines_left ∙ ap (judged mode on.before) (half_ended on.half rest line (ended_lines later) on.plain lines_are)

line_on : (lines new : Cutting) (mode : Mode) (taken : List Located) (all rest line later : List ℕ) (end : ℕ)
    (on : FeedsOn lines mode taken all rest) → FirstLine rest end line later → (found : Result Line PyxKind) →
    so_far mode all ≡ and_then on.before found (λ l. judged mode (l ∷ on.before) (ended_lines later)) →
    Cuts {E = AllocError} new mode taken on.before found (Ok None) → FeedsOn new mode taken all later
line_on lines new mode taken all rest line later end on first (Ok l) is cuts =
    let size : length later ≡ length rest - (end + 1) = ap length first.later_is ∙ length-drop (end + 1) rest in
    let less = first.less in
    let few = on.few in
    record {
      before = l ∷ on.before;
      half = [];
      stands = cuts.1;
      plain = refl;
      lines_left = is;
      half_left = on.half_left ∙ (half_left on.half rest (some_end rest end first.less first.is)
          ∙ rw (first.later_is, add-one) (behind_first rest end first.less first.none first.is));
      few = omega arith;
      few_all = on.few_all;
    }
line_on lines new mode taken all rest line later end on first (Err kind) is cuts = absurd (cc)

-- a good line more
pub feeds_line : (lines new : Cutting) (mode : Mode) (taken : List Located) (all rest line later : List ℕ) (end : ℕ)
    (on : FeedsOn lines mode taken all rest) → FirstLine rest end line later →
    Cuts {E = AllocError} new mode taken on.before (judge mode on.before (on.half ++ line)) (Ok None) → FeedsOn new mode taken all later
feeds_line lines new mode taken all rest line later end on first cuts =
    line_on lines new mode taken all rest line later end on first (judge mode on.before (on.half ++ line))
    (first_judged lines mode taken all rest line later end on first) cuts

fault_on : (new : Cutting) (mode : Mode) (taken : List Located) (all : List ℕ) (before : List Line)
    (lines : List (List ℕ)) (fault : PyxFault) (found : Result Line PyxKind) →
    so_far mode all ≡ and_then before found (λ l. judged mode (l ∷ before) lines) →
    Cuts {E = AllocError} new mode taken before found (Ok (Some fault)) → FedTo new mode all taken (Some fault)
fault_on new mode taken all before lines fault (Ok l) is cuts = absurd (cc)
fault_on new mode taken all before lines fault (Err kind) is cuts =
    (ap (λ j. j.fault) is ∙ sym cuts.0, cuts.1 ∙ sym (ap (λ j. closed mode j.before) is))

-- a faulty line
pub feeds_fault : (lines new : Cutting) (mode : Mode) (taken : List Located) (all rest line later : List ℕ) (end : ℕ)
    (fault : PyxFault) (on : FeedsOn lines mode taken all rest) → FirstLine rest end line later →
    Cuts {E = AllocError} new mode taken on.before (judge mode on.before (on.half ++ line)) (Ok (Some fault)) →
    FedTo new mode all taken (Some fault)
feeds_fault lines new mode taken all rest line later end fault on first cuts =
    fault_on new mode taken all on.before (ended_lines later) fault (judge mode on.before (on.half ++ line))
    (first_judged lines mode taken all rest line later end on first) cuts

memory_on : (new : Cutting) (mode : Mode) (taken : List Located) (all : List ℕ) (before : List Line)
    (lines : List (List ℕ)) (error : AllocError) (found : Result Line PyxKind) →
    so_far mode all ≡ and_then before found (λ l. judged mode (l ∷ before) lines) →
    Cuts new mode taken before found (Err error) →
    IsFront (taken ++ new.standing.events.waiting.items) (completed mode all)
memory_on new mode taken all before lines error (Ok l) is cuts =
    rw is (front_trans _ (closed mode (l ∷ before)) _ cuts (closed_front mode (l ∷ before) lines))
memory_on new mode taken all before lines error (Err kind) is cuts = rw is cuts

-- no memory for a line
pub feeds_memory : (lines new : Cutting) (mode : Mode) (taken : List Located) (all rest line later : List ℕ) (end : ℕ)
    (error : AllocError) (on : FeedsOn lines mode taken all rest) → FirstLine rest end line later →
    Cuts new mode taken on.before (judge mode on.before (on.half ++ line)) (Err error) →
    IsFront (taken ++ new.standing.events.waiting.items) (completed mode all)
feeds_memory lines new mode taken all rest line later end error on first cuts =
    memory_on new mode taken all on.before (ended_lines later) error (judge mode on.before (on.half ++ line))
    (first_judged lines mode taken all rest line later end on first) cuts

-- the rest has no line end
no_lines : (lines : Cutting) (mode : Mode) (taken : List Located) (all rest : List ℕ) (on : FeedsOn lines mode taken all rest) →
    NoEndBelow rest (length rest) → has_end (on.half ++ rest) ≡ false
no_lines lines mode taken all rest on none = any_none on.half rest on.plain (no_end rest none)

pub feeds_end : (lines new : Cutting) (mode : Mode) (taken : List Located) (all rest : List ℕ) →
    FeedsOn lines mode taken all rest → NoEndBelow rest (length rest) → new.standing ≡ lines.standing → new.count ≡ lines.count →
    new.half.items ≡ lines.half.items ++ rest → Keeps new mode all taken
feeds_end lines new mode taken all rest on none standing count half =
    let plain = no_lines lines mode taken all rest on none in
    record {
      before = on.before;
      good = on.lines_left ∙ ap (judged mode on.before) (none_ended (on.half ++ rest) plain);
      stands = record {
        reads = rw standing on.stands.reads;
        count = count ∙ on.stands.count;
        half_is = half ∙ (ap (λ l. l ++ rest) on.stands.half_is ∙ sym (on.half_left ∙ all_left (on.half ++ rest) plain));
      };
      few = on.few_all;
    }

-- no memory for the half
pub feeds_none : (lines : Cutting) (mode : Mode) (taken : List Located) (all rest : List ℕ) → FeedsOn lines mode taken all rest →
    IsFront (taken ++ lines.standing.events.waiting.items) (completed mode all)
feeds_none lines mode taken all rest on =
    let front = closed_front mode on.before (ended_lines (on.half ++ rest)) in
    rw (on.stands.reads.told.completed, on.lines_left) front

-- the events at the end, or before a fault there
abbrev pub choose : Mode → List Line → List Line → Option PyxFault → List Located
choose mode before lines None = ended mode lines
choose mode before lines (Some fault) = closed mode before

choose_is : (mode : Mode) (fed : List ℕ) (before : List Line) (fault : Option PyxFault) → so_far mode fed ≡ sound before →
    choose mode before (in_all mode fed).before fault ≡ events_unless mode fed fault
choose_is mode fed before None good = refl
choose_is mode fed before (Some fault) good = sym (ap (λ j. closed mode j.before) good)

-- the last line
abbrev pub last : List Line → Result Line PyxKind → Judged
last before found = and_then before found (λ line. sound (line ∷ before))

last_is : (mode : Mode) (fed : List ℕ) (before : List Line) → so_far mode fed ≡ sound before →
    in_all mode fed ≡ last before (judge mode before (unended fed))
last_is mode fed before good = judged_behind mode (ended_lines fed) (unended fed ∷ []) [] before good

-- what was found at the end
abbrev pub Found : Standing → Mode → List Located → List Line → Judged → Option PyxFault → Type 0
Found standing mode taken before lines found =
    (found ≡ or_lacking mode lines.before lines.fault)
    × Has standing taken (choose mode before lines.before (or_lacking mode lines.before lines.fault))

found_with : (standing : Standing) (mode : Mode) (taken : List Located) (before : List Line) (line : Line)
    (kind : Option PyxKind) (lacks : Option PyxKind) → TakesGoodLast {E = AllocError} standing mode taken before line lacks (Ok kind) →
    (fault_if (suc (length before)) kind ≡ end_fault (line ∷ before) lacks)
    × Has standing taken (choose mode before (line ∷ before) (end_fault (line ∷ before) lacks))
found_with standing mode taken before line kind None ends = (ap (fault_if (suc (length before))) ends.0, ends.1)
found_with standing mode taken before line kind (Some rule) ends = (ap (fault_if (suc (length before))) ends.0, ends.1)

found_by : (standing : Standing) (mode : Mode) (taken : List Located) (before : List Line)
    (found : Result Line PyxKind) (kind : Option PyxKind) → TakesLast {E = AllocError} standing mode taken before found (Ok kind) →
    Found standing mode taken before (last before found) (fault_if (suc (length before)) kind)
found_by standing mode taken before (Ok line) kind ends =
    found_with standing mode taken before line kind (lacking mode (line ∷ before)) ends
found_by standing mode taken before (Err rule) kind ends = (ap (fault_if (suc (length before))) ends.0, ends.1)

pub finishes : (standing : Standing) (mode : Mode) (taken : List Located) (fed : List ℕ) (before : List Line)
    (kind : Option PyxKind) (number : ℕ) → so_far mode fed ≡ sound before → number ≡ suc (length before) →
    TakesLast {E = AllocError} standing mode taken before (judge mode before (unended fed)) (Ok kind) →
    (fault_if number kind ≡ fault_of mode fed) × Has standing taken (events_before_fault mode fed)
finishes standing mode taken fed before kind number good is ends =
    let found : Found standing mode taken before (in_all mode fed) (fault_if (suc (length before)) kind) =
    rw (last_is mode fed before good) (found_by standing mode taken before (judge mode before (unended fed)) kind ends) in
    (ap (λ n. fault_if n kind) is ∙ found.0, found.1 ∙ choose_is mode fed before (fault_of mode fed) good)

none_with : (standing : Standing) (mode : Mode) (taken : List Located) (before : List Line) (line : Line)
    (error : AllocError) (lacks : Option PyxKind) → TakesGoodLast standing mode taken before line lacks (Err error) →
    IsFront (taken ++ standing.events.waiting.items) (choose mode before (line ∷ before) (end_fault (line ∷ before) lacks))
none_with standing mode taken before line error None ends = ends
none_with standing mode taken before line error (Some rule) ends = ends

none_by : (standing : Standing) (mode : Mode) (taken : List Located) (before : List Line)
    (found : Result Line PyxKind) (error : AllocError) → TakesLast standing mode taken before found (Err error) →
    IsFront (taken ++ standing.events.waiting.items)
    (choose mode before (last before found).before (or_lacking mode (last before found).before (last before found).fault))
none_by standing mode taken before (Ok line) error ends =
    none_with standing mode taken before line error (lacking mode (line ∷ before)) ends
none_by standing mode taken before (Err rule) error ends = ends

pub finishes_none : (standing : Standing) (mode : Mode) (taken : List Located) (fed : List ℕ) (before : List Line)
    (error : AllocError) → so_far mode fed ≡ sound before →
    TakesLast standing mode taken before (judge mode before (unended fed)) (Err error) →
    IsFront (taken ++ standing.events.waiting.items) (events_before_fault mode fed)
finishes_none standing mode taken fed before error good ends =
    let front : IsFront (taken ++ standing.events.waiting.items)
    (choose mode before (in_all mode fed).before (fault_of mode fed)) =
    rw (last_is mode fed before good) (none_by standing mode taken before (judge mode before (unended fed)) error ends) in
    rw (choose_is mode fed before (fault_of mode fed) good) at front
