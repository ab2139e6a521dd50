-- The events of a text hold no more text than it has bytes.
use Rattle.std.proofs.Common.{◌≡◌, ℕ, ◌+◌, ◌≤◌, ◌==◌, suc, Bool, true, false, ◌||◌, List, [], ◌∷◌, ◌++◌, length, drop, sum_by, Option, None, Some, refl, ap, ◌∙◌, subst, true≢false, arith, length-append, length-drop}
use Rattle.std.specs.Prelude.{if◌then◌else◌, Result, Ok, Err}
use Rattle.std.specs.List.{list_any, list_all, after_first, position_or_len}
use Rattle.std.specs.Option.{option_to_list}
use Rattle.std.specs.Str.{chars, is_utf8}
use Rattle.std.proofs.lemmas.List.Sums.{sum_by-append, sum_by-cons}
use Rattle.sch_base.specs.Characters.{is_xml_char}
use Rattle.pyx_core.specs.declared.event.Attr.{Attr}
use Rattle.pyx_core.specs.declared.event.Event.{Event}
use Rattle.pyx_core.specs.declared.event.Event.TheVariants as event
use Rattle.pyx_core.specs.declared.event.Located.{Located}
use Rattle.pyx_core.specs.declared.fault.PyxFault.{PyxFault}
use Rattle.pyx_core.specs.declared.fault.PyxKind.{PyxKind}
use Rattle.pyx_core.specs.declared.fault.PyxKind.TheVariants.{NotUtf8, BadChar, UnknownLine, EntityLine, BadName}
use Rattle.pyx_core.specs.declared.line_table.Line.{Line}
use Rattle.pyx_core.specs.declared.line_table.Line.TheVariants.{Skipped, Start, Attribute, End, Chars, Pi, Comment}
use Rattle.pyx_core.specs.declared.mode.Mode.{Mode}
use Rattle.pyx_core.specs.Lines.{is_line_end, onto_ended, ended_lines, unended}
use Rattle.pyx_core.specs.LineTable.{is_qname, is_target, is_space, name_part, text_part, read_start, read_end, read_attribute, read_pi, read_chars, read_comment, read_marked, read_text, line_of}
use Rattle.pyx_core.specs.Escapes.{undone, unescaped, unescaped_after}
use Rattle.pyx_core.specs.Before.{is_outside, kept, attr_onto, with_attr, begin_text, text_onto, with_text, pending, is_chars, but_text, closed, misplaced, located}
use Rattle.pyx_core.specs.Reading.{placed, unless, judged, and_then, so_far, in_all, completed, events_of, events_unless, events_before_fault, fault_of}
use Rattle.pyx_core.specs.Nesting.{bare}
use Rattle.name_scopes.specs.inner.Build.{event_text, value_bytes}

-- sums along lists

abbrev pub total : List (List ℕ) → ℕ
total [] = 0
total (line ∷ lines) = length line + total lines

abbrev pub line_text : Line → ℕ
line_text Skipped = 0
line_text (Start name) = 0
line_text (Attribute attr) = length attr.value
line_text (End name) = 0
line_text (Chars text) = length text
line_text (Pi target body) = length body
line_text (Comment text) = length text

abbrev pub lines_text : List Line → ℕ
lines_text [] = 0
lines_text (line ∷ before) = line_text line + lines_text before

abbrev pub texts : List Located → ℕ
texts [] = 0
texts (found ∷ events) = event_text found.event + texts events

texts-append : (xs ys : List Located) → texts (xs ++ ys) ≡ texts xs + texts ys
texts-append [] ys = omega arith
texts-append (x ∷ xs) ys = omega (arith, texts-append xs ys)

texts-sum : (events : List Located) → sum_by event_text (bare events) ≡ texts events
texts-sum [] = refl
texts-sum (x ∷ events) = sum_by-cons event_text x.event (bare events) ∙ ap (λ (k : ℕ). event_text x.event + k) (texts-sum events)

-- lines by themselves

undone-short : (b : ℕ) → length (undone b) ≤ 2
undone-short b = by (b == 110) (b == 116) (b == 114) (b == 92)
  where
    by : (p q r s : Bool) → length (if p then 10 ∷ [] else if q then 9 ∷ [] else if r then 13 ∷ [] else if s then 92 ∷ [] else 92 ∷ b ∷ []) ≤ 2
    by true q r s = omega arith
    by false true r s = omega arith
    by false false true s = omega arith
    by false false false true = omega arith
    by false false false false = omega arith

short-after : (text : List ℕ) → (length (unescaped_after false text) ≤ length text) × (length (unescaped_after true text) ≤ length text + 1)
short-after [] = (omega arith, omega arith)
short-after (b ∷ text) =
    let rest = short-after text in
    (by (b == 92) rest.0 rest.1, omega (arith, rest.0, undone-short b, length-append (undone b) (unescaped_after false text)))
  where
    by : (t : Bool) → length (unescaped_after false text) ≤ length text → length (unescaped_after true text) ≤ length text + 1 → length (if t then unescaped_after true text else b ∷ unescaped_after false text) ≤ suc (length text)
    by true h k = omega arith
    by false h k = omega arith

unescaped-short : (text : List ℕ) → length (unescaped text) ≤ length text
unescaped-short text = (short-after text).0

drop-short : (n : ℕ) (xs : List ℕ) → length (drop n xs) ≤ length xs
drop-short n xs = omega (arith, length-drop n xs)

part-short : (body : List ℕ) → length (text_part body) ≤ length body
part-short body = omega (arith, unescaped-short (after_first is_space body), drop-short (position_or_len is_space body + 1) body)

abbrev pub outcome_text : Result Line PyxKind → ℕ
outcome_text (Ok line) = line_text line
outcome_text (Err kind) = 0

either-short : (b : Bool) (x y : Result Line PyxKind) (n : ℕ) → outcome_text x ≤ n → outcome_text y ≤ n → outcome_text (if b then x else y) ≤ n
either-short true x y n h k = h
either-short false x y n h k = k

marked-short : (mark : ℕ) (body : List ℕ) → outcome_text (read_marked mark body) ≤ length body
marked-short mark body =
    either-short (mark == 40) (read_start body) _ (length body) (either-short (is_qname body) (Ok (Start body)) (Err BadName) (length body) (omega arith) (omega arith))
    (either-short (mark == 65) (read_attribute body) _ (length body) (either-short (is_qname (name_part body)) (Ok (Attribute (record { name = name_part body; value = text_part body }))) (Err BadName) (length body) (part-short body) (omega arith))
    (either-short (mark == 41) (read_end body) _ (length body) (either-short (is_qname body) (Ok (End body)) (Err BadName) (length body) (omega arith) (omega arith))
    (either-short (mark == 45 || mark == 91) (read_chars body) _ (length body) (unescaped-short body)
    (either-short (mark == 63) (read_pi body) _ (length body) (either-short (is_target (name_part body)) (Ok (Pi (name_part body) (text_part body))) (Err BadName) (length body) (part-short body) (omega arith))
    (either-short (mark == 67) (read_comment body) _ (length body) (unescaped-short body)
    (either-short (mark == 68 || mark == 78 || mark == 85) (Ok Skipped) _ (length body) (omega arith)
    (either-short (mark == 38) (Err EntityLine) (Err UnknownLine) (length body) (omega arith) (omega arith))))))))

text-short : (bytes : List ℕ) → outcome_text (read_text bytes) ≤ length bytes
text-short [] = omega arith
text-short (mark ∷ body) = omega (arith, marked-short mark body)

line-short : (bytes : List ℕ) → outcome_text (line_of bytes) ≤ length bytes
line-short bytes =
    either-short (is_utf8 bytes) _ (Err NotUtf8) (length bytes)
    (either-short (list_all is_xml_char (chars bytes)) (read_text bytes) (Err BadChar) (length bytes) (text-short bytes) (omega arith)) (omega arith)

-- events of lines

bytes-more : (attrs : List Attr) (attr : Attr) → sum_by value_bytes (attrs ++ attr ∷ []) ≡ sum_by value_bytes attrs + length attr.value
bytes-more attrs attr = sum_by-append value_bytes attrs (attr ∷ []) ∙ ap (λ (k : ℕ). sum_by value_bytes attrs + k) (sum_by-cons value_bytes attr [] ∙ omega arith)

attr-more : (attr : Attr) (o : Option Located) → texts (option_to_list (with_attr attr o)) ≤ texts (option_to_list o) + length attr.value
attr-more attr None = omega arith
attr-more attr (Some begun) = by begun.line begun.event
  where
    by : (line : ℕ) (e : Event) → event_text (attr_onto attr e) + 0 ≤ (event_text e + 0) + length attr.value
    by line (event.Start name attrs) = omega (arith, bytes-more attrs attr)
    by line (event.End name) = omega arith
    by line (event.Chars text) = omega arith
    by line (event.Pi target body) = omega arith
    by line (event.Comment text) = omega arith

begin-short : (number : ℕ) (text : List ℕ) → texts (option_to_list (begin_text number text)) ≤ length text
begin-short number [] = omega arith
begin-short number (b ∷ text) = omega arith

text-more : (number : ℕ) (text : List ℕ) (o : Option Located) → texts (but_text o) + texts (option_to_list (with_text number text o)) ≤ texts (option_to_list o) + length text
text-more number text None = omega (arith, begin-short number text)
text-more number text (Some begun) = by begun.line begun.event
  where
    by : (line : ℕ) (e : Event) → texts (if is_chars e then [] else located line e ∷ []) + texts (option_to_list (text_onto number text line e)) ≤ (event_text e + 0) + length text
    by line (event.Start name attrs) = omega (arith, begin-short number text)
    by line (event.End name) = omega (arith, begin-short number text)
    by line (event.Chars had) = omega (arith, length-append had text)
    by line (event.Pi target body) = omega (arith, begin-short number text)
    by line (event.Comment comment) = omega (arith, begin-short number text)

kept-short : (outside : Bool) (text : List ℕ) → length (kept outside text) ≤ length text
kept-short true text = omega arith
kept-short false text = omega arith

ended-text : (mode : Mode) (before : List Line) → texts (closed mode before) + texts (option_to_list (pending mode before)) ≤ lines_text before
ended-text mode [] = omega arith
ended-text mode (Skipped ∷ before) = omega (arith, ended-text mode before, texts-append (closed mode before) [])
ended-text mode (Start name ∷ before) = omega (arith, ended-text mode before, texts-append (closed mode before) (option_to_list (pending mode before)))
ended-text mode (Attribute attr ∷ before) = omega (arith, ended-text mode before, texts-append (closed mode before) [], attr-more attr (pending mode before))
ended-text mode (End name ∷ before) = simp texts-append (omega (arith, ended-text mode before))
ended-text mode (Chars text ∷ before) = omega (arith, ended-text mode before, texts-append (closed mode before) (but_text (pending mode before)), text-more (suc (length before)) (kept (is_outside mode before) text) (pending mode before), kept-short (is_outside mode before) text)
ended-text mode (Pi target body ∷ before) = simp texts-append (omega (arith, ended-text mode before))
ended-text mode (Comment text ∷ before) = simp texts-append (omega (arith, ended-text mode before))

-- lines that are judged

judged-text : (mode : Mode) (before : List Line) (lines : List (List ℕ)) → lines_text (judged mode before lines).before ≤ lines_text before + total lines
judged-text mode before [] = omega arith
judged-text mode before (bytes ∷ lines) = by (line_of bytes) refl (λ line. judged-text mode (line ∷ before) lines)
  where
    inner : (line : Line) (o : Option PyxKind) → line_text line ≤ length bytes → lines_text (judged mode (line ∷ before) lines).before ≤ (line_text line + lines_text before) + total lines →
        lines_text (and_then before (unless line o) (λ line. judged mode (line ∷ before) lines)).before ≤ lines_text before + (length bytes + total lines)
    inner line None short rest = omega arith
    inner line (Some kind) short rest = omega arith

    by : (r : Result Line PyxKind) → line_of bytes ≡ r → ((line : Line) → lines_text (judged mode (line ∷ before) lines).before ≤ (line_text line + lines_text before) + total lines) →
        lines_text (and_then before (placed mode before r) (λ line. judged mode (line ∷ before) lines)).before ≤ lines_text before + (length bytes + total lines)
    by (Err kind) e rest = omega arith
    by (Ok line) e rest = inner line (misplaced mode before line) (subst (λ (r : Result Line PyxKind). outcome_text r ≤ length bytes) e (line-short bytes)) (rest line)

-- bytes that are cut into lines

total-append : (xs ys : List (List ℕ)) → total (xs ++ ys) ≡ total xs + total ys
total-append [] ys = omega arith
total-append (x ∷ xs) ys = omega (arith, total-append xs ys)

onto-total : (b : ℕ) (lines : List (List ℕ)) → total (onto_ended b lines) ≤ suc (total lines)
onto-total b [] = omega arith
onto-total b (line ∷ lines) = omega arith

no-end : (bytes : List ℕ) → list_any is_line_end bytes ≡ false → ended_lines bytes ≡ []
no-end [] h = refl
no-end (b ∷ bytes) h = by (is_line_end b) h (no-end bytes)
  where
    by : (t : Bool) → (t || list_any is_line_end bytes) ≡ false → (list_any is_line_end bytes ≡ false → ended_lines bytes ≡ []) → (if t then [] ∷ ended_lines bytes else onto_ended b (ended_lines bytes)) ≡ []
    by true h rest = absurd (true≢false h)
    by false h rest = ap (onto_ended b) (rest h)

cut-total : (bytes : List ℕ) → total (ended_lines bytes) + length (unended bytes) ≤ length bytes
cut-total [] = omega arith
cut-total (b ∷ bytes) = by (is_line_end b) (list_any is_line_end bytes) refl (cut-total bytes)
  where
    by : (t u : Bool) → list_any is_line_end bytes ≡ u → total (ended_lines bytes) + length (unended bytes) ≤ length bytes →
        total (if t then [] ∷ ended_lines bytes else onto_ended b (ended_lines bytes)) + length (if t || u then unended bytes else b ∷ bytes) ≤ suc (length bytes)
    by true u e rest = omega arith
    by false true e rest = omega (arith, onto-total b (ended_lines bytes))
    by false false e rest = omega (arith, ap (λ (l : List (List ℕ)). total (onto_ended b l)) (no-end bytes e))

-- the events of a text, before its fault or to its end

completed-text : (mode : Mode) (bytes : List ℕ) → texts (completed mode bytes) ≤ length bytes
completed-text mode bytes = omega (arith, ended-text mode (so_far mode bytes).before, judged-text mode [] (ended_lines bytes), cut-total bytes)

events-text : (mode : Mode) (bytes : List ℕ) → texts (events_of mode bytes) ≤ length bytes
events-text mode bytes =
    omega (
      arith,
      texts-append (closed mode (in_all mode bytes).before) (option_to_list (pending mode (in_all mode bytes).before)),
      ended-text mode (in_all mode bytes).before,
      judged-text mode [] (ended_lines bytes ++ unended bytes ∷ []),
      total-append (ended_lines bytes) (unended bytes ∷ []),
      cut-total bytes,
    )

pub front-text : (mode : Mode) (bytes : List ℕ) → sum_by event_text (bare (events_before_fault mode bytes)) ≤ length bytes
front-text mode bytes = let h : texts (events_before_fault mode bytes) ≤ length bytes = by (fault_of mode bytes) in omega (arith, h, texts-sum (events_before_fault mode bytes))
  where
    by : (o : Option PyxFault) → texts (events_unless mode bytes o) ≤ length bytes
    by None = events-text mode bytes
    by (Some fault) = completed-text mode bytes
