-- The text of events is read back.
use Rattle.std.proofs.Common.{◌≡◌, ◌≢◌, ℕ, Bool, true, false, not, cond, nat_eq, List, [], ◌∷◌, ◌++◌, map, refl, sym, ◌∙◌, ap}
use Rattle.std.specs.List.{list_all}
use Rattle.std.specs.Option.{option_to_list}
use Rattle.std.proofs.lemmas.List.{append-nil}
use Rattle.pyx_core.specs.declared.event.Attr.{Attr}
use Rattle.pyx_core.specs.declared.event.Event.{Event}
use Rattle.pyx_core.specs.declared.event.Event.TheVariants as event
use Rattle.pyx_core.specs.declared.line_table.Line.{Line}
use Rattle.pyx_core.specs.declared.line_table.Line.TheVariants.{Skipped}
use Rattle.pyx_core.specs.declared.mode.Mode.{Mode}
use Rattle.pyx_core.specs.Before.{open_names, has_item, pending, closed}
use Rattle.pyx_core.specs.Escapes.{escape_of, escaped}
use Rattle.pyx_core.specs.LineTable.{is_qname, is_target}
use Rattle.pyx_core.specs.Nesting.{Place, start, after, of_chars, is_name, is_pi_name, is_attr, Fits, Nest, place_after, IsEnd, bare}
use Rattle.pyx_core.specs.Reading.{judged, sound, ended, in_all, events_of, or_lacking}
use Rattle.pyx_core.specs.Written.{text_of, Gives, WrittenIsReadBack}
use Rattle.pyx_core.proofs.LinesLemmas.{has_end, any_none}
use Rattle.pyx_core.proofs.NameBytes.{line_end_no_name, ncname_without, qname_without}
use Rattle.pyx_core.proofs.NestingLemmas.{events_nest, empty_made}
use Rattle.pyx_core.proofs.ReplayLemmas.{raws, replay_all, line_is, judge_good, name_of, named_after}
use Rattle.std.proofs.lemmas.Bool.{and_parts, and_from}
use Rattle.pyx_core.proofs.TextLemmas.{utf8_of}
use Rattle.pyx_core.proofs.WrittenLemmas.{joined, joined_append, joined_ends, are_lines, raw, attr_raw, event_text}

-- no line ends within what is written
escape_plain : (b : ℕ) (v : Bool) → nat_eq b 10 ≡ v → has_end (escape_of b) ≡ false
escape_plain b true is = rw is refl
escape_plain b false is = rw is (elim (nat_eq b 9) as (λ v. has_end (cond v (92 ∷ 116 ∷ []) (cond (nat_eq b 13) (92 ∷ 114 ∷ []) (cond (nat_eq b 92) (92 ∷ 92 ∷ []) (b ∷ [])))) ≡ false) [
  | true ↦ refl
  | false ↦ elim (nat_eq b 13) as (λ v. has_end (cond v (92 ∷ 114 ∷ []) (cond (nat_eq b 92) (92 ∷ 92 ∷ []) (b ∷ []))) ≡ false) [
    | true ↦ refl
    | false ↦ elim (nat_eq b 92) as (λ v. has_end (cond v (92 ∷ 92 ∷ []) (b ∷ [])) ≡ false) [
      | true ↦ refl
      | false ↦ rw is refl
    ]
  ]
])

escaped_plain : (text : List ℕ) → has_end (escaped text) ≡ false
escaped_plain [] = refl
escaped_plain (b ∷ text) = any_none (escape_of b) (escaped text) (escape_plain b (nat_eq b 10) refl) (escaped_plain text)

name_plain : (name : List ℕ) → is_name name ≡ true → has_end name ≡ false
name_plain name h =
    let parts = and_parts (of_chars name) (is_qname name) h in
    qname_without 10 name line_end_no_name refl parts.0 parts.1

target_plain : (target : List ℕ) → is_pi_name target ≡ true → has_end target ≡ false
target_plain target h =
    let parts = and_parts (of_chars target) (is_target target) h in
    ncname_without 10 target line_end_no_name (utf8_of target parts.0) (and_parts _ _ parts.1).0

attr_plain : (attr : Attr) → is_attr attr ≡ true → has_end (attr_raw attr) ≡ false
attr_plain attr h =
    any_none attr.name (32 ∷ escaped attr.value) (name_plain attr.name (and_parts (is_name attr.name) _ h).0) (escaped_plain attr.value)

attrs_plain : (attrs : List Attr) → list_all is_attr attrs ≡ true → are_lines (map attr_raw attrs) ≡ true
attrs_plain [] h = refl
attrs_plain (attr ∷ attrs) h =
    let here = and_parts (is_attr attr) _ h in and_from _ _ (rw (attr_plain attr here.0) refl) (attrs_plain attrs here.1)

one_plain : (line : List ℕ) → has_end line ≡ false → are_lines (line ∷ []) ≡ true
one_plain line h = rw h refl

raw_plain : (mode : Mode) (place : Place) (e : Event) → Fits mode place e → list_all is_name place.opened ≡ true →
    are_lines (raw e) ≡ true
raw_plain mode place (event.Start name attrs) fits h =
    and_from _ _ (rw (name_plain name fits.named) refl) (attrs_plain attrs fits.attributes)
raw_plain mode place (event.End name) fits h =
    one_plain (41 ∷ name) (name_plain name (name_of name place.opened fits h))
raw_plain mode place (event.Chars text) fits h = one_plain (45 ∷ escaped text) (escaped_plain text)
raw_plain mode place (event.Pi target body) fits h =
    one_plain (63 ∷ (target ++ (32 ∷ escaped body)))
    (any_none target (32 ∷ escaped body) (target_plain target fits.named) (escaped_plain body))
raw_plain mode place (event.Comment text) fits h = one_plain (67 ∷ escaped text) (escaped_plain text)

lines_append : (xs ys : List (List ℕ)) → are_lines xs ≡ true → are_lines ys ≡ true → are_lines (xs ++ ys) ≡ true
lines_append [] ys one other = other
lines_append (line ∷ xs) ys one other =
    let here = and_parts (not (has_end line)) _ one in and_from _ _ here.0 (lines_append xs ys here.1 other)

raws_plain : (mode : Mode) (place : Place) (events : List Event) → Nest mode place events →
    list_all is_name place.opened ≡ true → are_lines (raws events) ≡ true
raws_plain mode place [] nests h = refl
raws_plain mode place (e ∷ events) nests h =
    lines_append (raw e) (raws events) (raw_plain mode place e nests.0 h)
    (raws_plain mode (after mode place e) events nests.1 (named_after mode place e nests.0 h))

-- the text is that of the lines
some_text : (mode : Mode) (place : Place) (e : Event) → Fits mode place e → (text : List ℕ) → e ≡ event.Chars text → text ≢ []
some_text mode place e fits text is = let chars = rw is at fits in chars.some

text_is : (mode : Mode) (place : Place) (events : List Event) → Nest mode place events → text_of events ≡ joined (raws events)
text_is mode place [] nests = refl
text_is mode place (e ∷ events) nests =
    ap (λ l. l ++ text_of events) (event_text e (some_text mode place e nests.0))
    ∙ (ap (λ l. joined (raw e) ++ l) (text_is mode (after mode place e) events nests.1) ∙ sym (joined_append (raw e) (raws events)))

-- the empty last line is skipped
last_line : (mode : Mode) (good : List Line) → judged mode good ([] ∷ []) ≡ sound (Skipped ∷ good)
last_line mode good = rw (judge_good mode good [] Skipped (line_is [] empty_made) refl) refl

whole : (mode : Mode) (events : List Event) → Nest mode start events → (good : List Line) →
    ((more : List (List ℕ)) → judged mode [] (raws events ++ more) ≡ judged mode good more) →
    in_all mode (text_of events) ≡ sound (Skipped ∷ good)
whole mode events nests good judged_is =
    let ends = joined_ends (raws events) (raws_plain mode start events nests refl) in
    ap (in_all mode) (text_is mode start events nests)
    ∙ (rw (ends.0, ends.1) (judged_is ([] ∷ [])) ∙ last_line mode good)

pub read_back : (mode : Mode) (events : List Event) → Nest mode start events → IsEnd (place_after mode start events) →
    Gives mode (text_of events) events
read_back mode events nests end =
    let replays = replay_all mode [] events nests refl in
    let all = whole mode events nests replays.good replays.judged_is in
    let item : has_item mode replays.good ≡ true = ap (λ p. p.begun) replays.place_is ∙ end.begun in
    let top : open_names replays.good ≡ [] = ap (λ p. p.opened) replays.place_is ∙ end.closed in
    record {
      good = ap (λ j. or_lacking mode j.before j.fault) all ∙ rw (item, top) refl;
      events_are = ap (λ j. bare (ended mode j.before)) all
          ∙ (ap (λ l. bare (l ++ option_to_list (pending mode replays.good))) (append-nil (closed mode replays.good)) ∙ replays.events_are);
    }

pub written_back : WrittenIsReadBack
written_back = record {
  nested = read_back;
  of_text = λ mode bytes good.
      let nests = events_nest.in_all mode bytes good in
      read_back mode (bare (events_of mode bytes)) nests.0 nests.1;
}
