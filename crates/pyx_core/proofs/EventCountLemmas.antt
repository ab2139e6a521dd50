-- A text has no more events than lines that are not empty, and no more of these than bytes.
use Rattle.std.proofs.Common.{◌≡◌, ℕ, ◌+◌, ◌≤◌, Bool, true, false, ◌||◌, List, [], ◌∷◌, ◌++◌, length, suc, Option, None, Some, Result, Ok, Err, arith, refl, length-append}
use Rattle.std.specs.List.{list_any}
use Rattle.std.specs.Option.{option_to_list}
use Rattle.std.proofs.lemmas.Str.{IsUtf8-nil, is_utf8-from_IsUtf8, chars-nil}
use Rattle.pyx_core.specs.declared.event.Event.{Event}
use Rattle.pyx_core.specs.declared.event.Event.TheVariants as event
use Rattle.pyx_core.specs.declared.event.Located.{Located}
use Rattle.pyx_core.specs.declared.fault.PyxKind.{PyxKind}
use Rattle.pyx_core.specs.declared.line_table.Line.{Line}
use Rattle.pyx_core.specs.declared.line_table.Line.TheVariants.{Skipped, Start, Attribute, End, Chars, Pi, Comment}
use Rattle.pyx_core.specs.declared.mode.Mode.{Mode}
use Rattle.pyx_core.specs.Before.{pending, closed, with_attr, but_text, is_text}
use Rattle.pyx_core.specs.Lines.{is_line_end, onto_ended, ended_lines, unended}
use Rattle.pyx_core.specs.Reading.{judge, judged, in_all, events_of, and_then}

-- how many events a line may bring
abbrev line_count : Line → ℕ
line_count Skipped = 0
line_count (Start name) = 1
line_count (Attribute attr) = 1
line_count (End name) = 1
line_count (Chars text) = 1
line_count (Pi target body) = 1
line_count (Comment text) = 1

abbrev lines_count : List Line → ℕ
lines_count [] = 0
lines_count (line ∷ before) = line_count line + lines_count before

-- one for what is begun
abbrev begun_count : Option Located → ℕ
begun_count begun = length (option_to_list begun)

begun_at_most_one : (begun : Option Located) → begun_count begun ≤ 1
begun_at_most_one None = omega arith
begun_at_most_one (Some found) = omega arith

with_attr_count : (attr : _) (begun : Option Located) → begun_count (with_attr attr begun) ≤ begun_count begun
with_attr_count attr None = omega arith
with_attr_count attr (Some found) = omega arith

but_text_count : (begun : Option Located) → length (but_text begun) ≤ begun_count begun
but_text_count begun = by_test (is_text begun) refl
  where
    by_test : (b : Bool) → is_text begun ≡ b → length (but_text begun) ≤ begun_count begun
    by_test true is = rw is (omega arith)
    by_test false is = rw is (omega arith)

-- a line that completes the begun event and its own
closed_by : (mode : Mode) (before : List Line) (own : Event) → length (closed mode before) + begun_count (pending mode before) ≤ lines_count before →
    length (closed mode before ++ (option_to_list (pending mode before) ++ record { line = suc (length before); event = own } ∷ [])) + 0 ≤ 1 + lines_count before
closed_by mode before own few =
    let last : List Located = record { line = suc (length before); event = own } ∷ [] in
    omega (arith, few, length-append (closed mode before) (option_to_list (pending mode before) ++ last), length-append (option_to_list (pending mode before)) last)

-- the events that lines complete and the begun one are no more than the lines
counted : (mode : Mode) (before : List Line) → length (closed mode before) + begun_count (pending mode before) ≤ lines_count before
counted mode [] = omega arith
counted mode (Skipped ∷ before) = omega (arith, counted mode before, length-append (closed mode before) [])
counted mode (Start name ∷ before) = omega (arith, counted mode before, length-append (closed mode before) (option_to_list (pending mode before)))
counted mode (Attribute attr ∷ before) = omega (arith, counted mode before, with_attr_count attr (pending mode before), length-append (closed mode before) [])
counted mode (End name ∷ before) = closed_by mode before (event.End name) (counted mode before)
counted mode (Chars text ∷ before) =
    omega (
      arith,
      counted mode before,
      but_text_count (pending mode before),
      length-append (closed mode before) (but_text (pending mode before)),
      begun_at_most_one (pending mode (Chars text ∷ before)),
    )
counted mode (Pi target body ∷ before) = closed_by mode before (event.Pi target body) (counted mode before)
counted mode (Comment text ∷ before) = closed_by mode before (event.Comment text) (counted mode before)

-- the lines that are judged to be good are no more than those that are not empty
abbrev line_bytes : List ℕ → ℕ
line_bytes [] = 0
line_bytes (b ∷ bytes) = 1

abbrev lines_bytes : List (List ℕ) → ℕ
lines_bytes [] = 0
lines_bytes (bytes ∷ lines) = line_bytes bytes + lines_bytes lines

count_at_most_one : (line : Line) → line_count line ≤ 1
count_at_most_one Skipped = omega arith
count_at_most_one (Start name) = omega arith
count_at_most_one (Attribute attr) = omega arith
count_at_most_one (End name) = omega arith
count_at_most_one (Chars text) = omega arith
count_at_most_one (Pi target body) = omega arith
count_at_most_one (Comment text) = omega arith

judged_count : (mode : Mode) (before : List Line) (bytes : List ℕ) (line : Line) → judge mode before bytes ≡ Ok line → line_count line ≤ line_bytes bytes
judged_count mode before [] line is =
    let same : Ok Skipped ≡ Ok line = rw (is_utf8-from_IsUtf8 [] IsUtf8-nil, chars-nil) at is in
    let e : Skipped ≡ line = cc in rw (← e) (omega arith)
judged_count mode before (b ∷ bytes) line is = count_at_most_one line

all_judged_count : (mode : Mode) (before : List Line) (lines : List (List ℕ)) → lines_count (judged mode before lines).before ≤ lines_count before + lines_bytes lines
all_judged_count mode before [] = omega arith
all_judged_count mode before (bytes ∷ lines) = by_line (λ line. all_judged_count mode (line ∷ before) lines) (judge mode before bytes) refl
  where
    by_line : ((line : Line) → lines_count (judged mode (line ∷ before) lines).before ≤ lines_count (line ∷ before) + lines_bytes lines) → (found : Result Line PyxKind) → judge mode before bytes ≡ found →
        lines_count (and_then before found (λ line. judged mode (line ∷ before) lines)).before ≤ lines_count before + (line_bytes bytes + lines_bytes lines)
    by_line later (Err kind) is = omega arith
    by_line later (Ok line) is = omega (arith, later line, judged_count mode before bytes line is)

-- each line that ends has its line end besides
length-onto_ended : (b : ℕ) (lines : List (List ℕ)) → length (onto_ended b lines) ≡ length lines
length-onto_ended b [] = refl
length-onto_ended b (line ∷ lines) = refl

none_ends : (bytes : List ℕ) → list_any is_line_end bytes ≡ false → ended_lines bytes ≡ []
none_ends [] none = refl
none_ends (b ∷ bytes) none = by_end (none_ends bytes) (is_line_end b) refl none
  where
    by_end : (list_any is_line_end bytes ≡ false → ended_lines bytes ≡ []) → (ends : Bool) → is_line_end b ≡ ends → ends || list_any is_line_end bytes ≡ false → ended_lines (b ∷ bytes) ≡ []
    by_end later true is none = absurd (cc)
    by_end later false is none = rw (is, later none) refl

bytes_in_lines : (bytes : List ℕ) → length (ended_lines bytes) + length (unended bytes) ≤ length bytes
bytes_in_lines [] = omega arith
bytes_in_lines (b ∷ bytes) = by_end (bytes_in_lines bytes) (is_line_end b) (list_any is_line_end bytes) refl refl
  where
    by_end : length (ended_lines bytes) + length (unended bytes) ≤ length bytes → (ends later : Bool) → is_line_end b ≡ ends → list_any is_line_end bytes ≡ later → length (ended_lines (b ∷ bytes)) + length (unended (b ∷ bytes)) ≤ length (b ∷ bytes)
    by_end few true later is any = rw is (omega arith)
    by_end few false true is any = rw (is, any) (omega (arith, length-onto_ended b (ended_lines bytes)))
    by_end few false false is any = rw (is, any, none_ends bytes any) (omega arith)

lines_bytes-ended : (lines : List (List ℕ)) (last : List ℕ) → lines_bytes (lines ++ last ∷ []) ≤ length lines + length last
lines_bytes-ended [] [] = omega arith
lines_bytes-ended [] (b ∷ bytes) = omega arith
lines_bytes-ended ([] ∷ lines) last = omega (arith, lines_bytes-ended lines last)
lines_bytes-ended ((b ∷ bytes) ∷ lines) last = omega (arith, lines_bytes-ended lines last)

-- a text has no more events than bytes
pub events_few : (mode : Mode) (bytes : List ℕ) → length (events_of mode bytes) ≤ length bytes
events_few mode bytes =
    let before = (in_all mode bytes).before in
    omega (
      arith,
      length-append (closed mode before) (option_to_list (pending mode before)),
      counted mode before,
      all_judged_count mode [] (ended_lines bytes ++ unended bytes ∷ []),
      lines_bytes-ended (ended_lines bytes) (unended bytes),
      bytes_in_lines bytes,
    )
