use Rattle.std.proofs.lemmas.Bool.{and_parts}
-- The lines of events are read back.
use Rattle.std.proofs.Common.{◌≡◌, ◌≢◌, ℕ, Bool, true, false, not, List, [], ◌∷◌, ◌++◌, map, refl, sym, ◌∙◌, ap, append_assoc}
use Rattle.std.specs.List.{list_all}
use Rattle.std.proofs.lemmas.List.{append-nil}
use Rattle.pyx_core.specs.declared.event.Attr.{Attr}
use Rattle.pyx_core.specs.declared.event.Event.{Event}
use Rattle.pyx_core.specs.declared.event.Event.TheVariants as event
use Rattle.pyx_core.specs.Escapes.{escaped}
use Rattle.pyx_core.specs.Lines.{ended_lines, unended}
use Rattle.pyx_core.specs.Written.{start_line, attr_line, end_line, chars_line, pi_line, comment_line, attr_lines, event_lines}
use Rattle.pyx_core.proofs.LinesLemmas.{has_end, half_ended, half_left}

-- lines that end, as one text
abbrev pub joined : List (List ℕ) → List ℕ
joined [] = []
joined (line ∷ lines) = line ++ (10 ∷ joined lines)

pub joined_append : (xs ys : List (List ℕ)) → joined (xs ++ ys) ≡ joined xs ++ joined ys
joined_append [] ys = refl
joined_append (line ∷ xs) ys =
    ap (λ l. line ++ (10 ∷ l)) (joined_append xs ys) ∙ sym (append_assoc line (10 ∷ joined xs) (joined ys))

-- lines within which no line ends
abbrev pub are_lines : List (List ℕ) → Bool
are_lines lines = list_all (λ line. not (has_end line)) lines

not_true : (v : Bool) → not v ≡ true → v ≡ false
not_true true h = absurd (cc)
not_true false h = refl

pub joined_ends : (lines : List (List ℕ)) → are_lines lines ≡ true → (ended_lines (joined lines) ≡ lines) × (unended (joined lines) ≡ [])
joined_ends [] h = (refl, refl)
joined_ends (line ∷ lines) h =
    let here = and_parts (not (has_end line)) _ h in
    let plain = not_true (has_end line) here.0 in
    let rest = joined_ends lines here.1 in (
      half_ended line (10 ∷ joined lines) [] (ended_lines (joined lines)) plain refl
          ∙ rw (append-nil line) (ap (λ l. line ∷ l) rest.0),
      half_left line (10 ∷ joined lines) refl ∙ rest.1,
    )

-- the lines of an event, without their line ends
abbrev pub attr_raw : Attr → List ℕ
attr_raw attr = 65 ∷ (attr.name ++ (32 ∷ escaped attr.value))

abbrev pub raw : Event → List (List ℕ)
raw (event.Start name attrs) = (40 ∷ name) ∷ map attr_raw attrs
raw (event.End name) = (41 ∷ name) ∷ []
raw (event.Chars text) = (45 ∷ escaped text) ∷ []
raw (event.Pi target body) = (63 ∷ (target ++ (32 ∷ escaped body))) ∷ []
raw (event.Comment text) = (67 ∷ escaped text) ∷ []

attr_text : (attr : Attr) (rest : List ℕ) → attr_line attr.name attr.value ++ rest ≡ attr_raw attr ++ (10 ∷ rest)
unfolding attr_line
attr_text attr rest =
    ap (λ l. 65 ∷ l) (append_assoc attr.name (32 ∷ (escaped attr.value ++ 10 ∷ [])) rest
    ∙ (ap (λ l. attr.name ++ (32 ∷ l)) (append_assoc (escaped attr.value) (10 ∷ []) rest)
    ∙ sym (append_assoc attr.name (32 ∷ escaped attr.value) (10 ∷ rest))))

attrs_text : (attrs : List Attr) → attr_lines attrs ≡ joined (map attr_raw attrs)
attrs_text [] = refl
attrs_text (attr ∷ attrs) = attr_text attr (attr_lines attrs) ∙ ap (λ l. attr_raw attr ++ (10 ∷ l)) (attrs_text attrs)

text_text : (text : List ℕ) → text ≢ [] → chars_line text ≡ joined ((45 ∷ escaped text) ∷ [])
unfolding chars_line
text_text [] some = absurd (some refl)
text_text (b ∷ text) some = refl

pub event_text : (e : Event) → ((text : List ℕ) → e ≡ event.Chars text → text ≢ []) → event_lines e ≡ joined (raw e)
unfolding start_line end_line pi_line comment_line
event_text (event.Start name attrs) some =
    ap (λ l. 40 ∷ l) (append_assoc name (10 ∷ []) (attr_lines attrs)
    ∙ ap (λ l. name ++ (10 ∷ l)) (attrs_text attrs))
event_text (event.End name) some = refl
event_text (event.Chars text) some = text_text text (some text refl)
event_text (event.Pi target body) some =
    ap (λ l. 63 ∷ l) (sym (append_assoc target (32 ∷ escaped body) (10 ∷ [])))
event_text (event.Comment text) some = refl
