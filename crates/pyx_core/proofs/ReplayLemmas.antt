-- The lines of events, read one event after the other.
use Rattle.std.proofs.Common.{◌≡◌, ◌≢◌, ℕ, suc, ◌<◌, Bool, true, false, ◌&&◌, not, cond, List, [], ◌∷◌, ◌++◌, length, map, Option, None, Some, Ok, arith, refl, sym, ◌∙◌, ap, append_assoc}
use Rattle.std.specs.List.{list_all}
use Rattle.std.specs.Option.{option_to_list}
use Rattle.std.specs.Str.{is_utf8}
use Rattle.std.proofs.lemmas.List.{append-nil}
use Rattle.std.proofs.lemmas.Slice.Eq.{bytes_eq-Decides}
use Rattle.sch_base.specs.Characters.{is_xml_char}
use Rattle.pyx_core.specs.declared.event.Attr.{Attr}
use Rattle.pyx_core.specs.declared.event.Event.{Event}
use Rattle.pyx_core.specs.declared.event.Event.TheVariants as event
use Rattle.pyx_core.specs.declared.event.Located.{Located}
use Rattle.pyx_core.specs.declared.fault.PyxKind.TheVariants.{SecondRoot, AttributePlace, WrongEnd}
use Rattle.pyx_core.specs.declared.line_table.Line.{Line}
use Rattle.pyx_core.specs.declared.line_table.Line.TheVariants.{Start, Attribute, End, Chars, Pi, Comment}
use Rattle.pyx_core.specs.declared.mode.Mode.{Mode}
use Rattle.pyx_core.specs.declared.mode.Mode.TheVariants.{Document, Fragment}
use Rattle.pyx_core.specs.Before.{is_fragment, outer, open_names, at_top, is_innermost, takes_attribute, has_item, is_second, located, is_outside, kept, with_attr, begin_text, text_onto, with_text, pending, is_chars, is_text, but_text, closed, misplaced}
use Rattle.pyx_core.specs.Escapes.{escaped}
use Rattle.pyx_core.specs.LineTable.{is_qname, is_target, read_text, line_of}
use Rattle.pyx_core.specs.Nesting.{Place, after, of_chars, is_name, is_pi_name, is_attr, CharsFit, Fits, Nest, place_after, bare}
use Rattle.pyx_core.specs.Reading.{judge, judged, ended}
use Rattle.pyx_core.proofs.EscapeLemmas.{escaped_made, spelled, one_low}
use Rattle.pyx_core.proofs.NameBytes.{space_no_name, ncname_without, qname_without, before_space, after_space}
use Rattle.pyx_core.proofs.NestingLemmas.{place_of, bare_append, open_item}
use Rattle.pyx_core.proofs.StandingLemmas.{begins, begins_takes}
use Rattle.std.proofs.lemmas.Bool.{and_parts, and_from}
use Rattle.sch_base.specs.Lists.{is_nil}
use Rattle.pyx_core.proofs.TextLemmas.{utf8_of, of_chars_append}
use Rattle.pyx_core.proofs.Undoing.{unescaped-escaped}
use Rattle.pyx_core.proofs.WrittenLemmas.{raw, attr_raw}

-- a good line by itself
pub line_is : (bytes : List ℕ) → of_chars bytes ≡ true → line_of bytes ≡ read_text bytes
line_is bytes h = let parts = and_parts (is_utf8 bytes) _ h in rw (parts.0, parts.1) refl

one_made : (mark : ℕ) → mark < 128 → is_xml_char mark ≡ true → of_chars (mark ∷ []) ≡ true
one_made mark low is = ap of_chars (sym (one_low mark [] low)) ∙ spelled (mark ∷ []) (rw is refl)

mark_made : (mark : ℕ) (body : List ℕ) → mark < 128 → is_xml_char mark ≡ true → of_chars body ≡ true → of_chars (mark ∷ body) ≡ true
mark_made mark body low is made = of_chars_append (mark ∷ []) body (one_made mark low is) made

-- the marks are Chars
mark_start : is_xml_char 40 ≡ true
unfolding is_xml_char
mark_start = refl

mark_end : is_xml_char 41 ≡ true
unfolding is_xml_char
mark_end = refl

mark_attr : is_xml_char 65 ≡ true
unfolding is_xml_char
mark_attr = refl

mark_chars : is_xml_char 45 ≡ true
unfolding is_xml_char
mark_chars = refl

mark_pi : is_xml_char 63 ≡ true
unfolding is_xml_char
mark_pi = refl

mark_comment : is_xml_char 67 ≡ true
unfolding is_xml_char
mark_comment = refl

mark_space : is_xml_char 32 ≡ true
unfolding is_xml_char
mark_space = refl

-- each written line is the one meant
start_is : (name : List ℕ) → is_name name ≡ true → line_of (40 ∷ name) ≡ Ok (Start name)
start_is name h =
    let parts = and_parts (of_chars name) _ h in
    line_is (40 ∷ name) (mark_made 40 name (omega arith) mark_start parts.0) ∙ rw parts.1 refl

pub end_is : (name : List ℕ) → is_name name ≡ true → line_of (41 ∷ name) ≡ Ok (End name)
end_is name h =
    let parts = and_parts (of_chars name) _ h in
    line_is (41 ∷ name) (mark_made 41 name (omega arith) mark_end parts.0) ∙ rw parts.1 refl

chars_is : (text : List ℕ) → of_chars text ≡ true → line_of (45 ∷ escaped text) ≡ Ok (Chars text)
chars_is text h =
    line_is (45 ∷ escaped text) (mark_made 45 (escaped text) (omega arith) mark_chars (escaped_made text h))
    ∙ ap (λ t. Ok (Chars t)) (unescaped-escaped text)

comment_is : (text : List ℕ) → of_chars text ≡ true → line_of (67 ∷ escaped text) ≡ Ok (Comment text)
comment_is text h =
    line_is (67 ∷ escaped text) (mark_made 67 (escaped text) (omega arith) mark_comment (escaped_made text h))
    ∙ ap (λ t. Ok (Comment t)) (unescaped-escaped text)

body_made : (name text : List ℕ) → of_chars name ≡ true → of_chars text ≡ true → of_chars (name ++ (32 ∷ escaped text)) ≡ true
body_made name text one other =
    of_chars_append name (32 ∷ escaped text) one (mark_made 32 (escaped text) (omega arith) mark_space (escaped_made text other))

attr_is : (attr : Attr) → is_attr attr ≡ true → line_of (attr_raw attr) ≡ Ok (Attribute attr)
attr_is attr h =
    let all = and_parts (is_name attr.name) (of_chars attr.value) h in
    let name = and_parts (of_chars attr.name) (is_qname attr.name) all.0 in
    let free = qname_without 32 attr.name space_no_name refl name.0 name.1 in
    line_is (attr_raw attr) (mark_made 65 (attr.name ++ (32 ∷ escaped attr.value)) (omega arith) mark_attr
    (body_made attr.name attr.value name.0 all.1))
    ∙ rw (
      before_space attr.name (escaped attr.value) free,
      name.1,
      after_space attr.name (escaped attr.value) free,
      unescaped-escaped attr.value,
    ) refl

pi_is : (target body : List ℕ) → is_pi_name target ≡ true → of_chars body ≡ true →
    line_of (63 ∷ (target ++ (32 ∷ escaped body))) ≡ Ok (Pi target body)
pi_is target body h made =
    let name = and_parts (of_chars target) (is_target target) h in
    let local = and_parts _ _ name.1 in
    let free = ncname_without 32 target space_no_name (utf8_of target name.0) local.0 in
    line_is (63 ∷ (target ++ (32 ∷ escaped body))) (mark_made 63 (target ++ (32 ∷ escaped body)) (omega arith) mark_pi
    (body_made target body name.0 made))
    ∙ rw (before_space target (escaped body) free, name.1, after_space target (escaped body) free, unescaped-escaped body) refl

pub judge_good : (mode : Mode) (before : List Line) (bytes : List ℕ) (line : Line) → line_of bytes ≡ Ok line →
    misplaced mode before line ≡ None → judge mode before bytes ≡ Ok line
judge_good mode before bytes line is good = rw (is, good) refl

-- the lines are good after those before, and give these events
pub record Replays (mode : Mode) (before : List Line) (lines : List (List ℕ)) (events : List Event) (place : Place) : Type 0 where
  pub good : List Line
  pub judged_is : (more : List (List ℕ)) → judged mode before (lines ++ more) ≡ judged mode good more
  pub events_are : bare (ended mode good) ≡ bare (ended mode before) ++ events
  pub place_is : place_of mode good ≡ place

one_line : (mode : Mode) (before : List Line) (bytes : List ℕ) (line : Line) (e : Event) (place : Place) →
    judge mode before bytes ≡ Ok line → bare (ended mode (line ∷ before)) ≡ bare (ended mode before) ++ e ∷ [] →
    place_of mode (line ∷ before) ≡ place → Replays mode before (bytes ∷ []) (e ∷ []) place
one_line mode before bytes line e place good events place_is = record {
  good = line ∷ before;
  judged_is = λ more. rw good refl;
  events_are = events;
  place_is = place_is;
}

own_event : (mode : Mode) (before : List Line) (number : ℕ) (e : Event) →
    bare ((closed mode before ++ (option_to_list (pending mode before) ++ located number e ∷ [])) ++ [])
    ≡ bare (ended mode before) ++ e ∷ []
own_event mode before number e =
    ap bare (append-nil (closed mode before ++ (option_to_list (pending mode before) ++ located number e ∷ []))
    ∙ sym (append_assoc (closed mode before) (option_to_list (pending mode before)) (located number e ∷ [])))
    ∙ bare_append (ended mode before) (located number e ∷ [])

-- an end
same_name : (name : List ℕ) (names : List (List ℕ)) → names ≡ name ∷ outer names → is_innermost name names ≡ true
same_name name names is = rw is ((bytes_eq-Decides name name).1 refl)

replay_end : (mode : Mode) (before : List Line) (name : List ℕ) → open_names before ≡ name ∷ outer (open_names before) →
    is_name name ≡ true →
    Replays mode before (raw (event.End name)) (event.End name ∷ []) (after mode (place_of mode before) (event.End name))
replay_end mode before name is made =
    one_line mode before (41 ∷ name) (End name) (event.End name) _
    (judge_good mode before (41 ∷ name) (End name) (end_is name made)
    (ap (λ v. cond v None (Some WrongEnd)) (same_name name (open_names before) is)))
    (own_event mode before (suc (length before)) (event.End name)) refl

-- an item has room
no_second : (item top has : Bool) → (item ≡ true → (top && has) ≡ false) → (item && top && has) ≡ false
no_second true top has room = room refl
no_second false top has room = refl

replay_pi : (mode : Mode) (before : List Line) (target body : List ℕ) → Fits mode (place_of mode before) (event.Pi target body) →
    Replays mode before (raw (event.Pi target body)) (event.Pi target body ∷ [])
    (after mode (place_of mode before) (event.Pi target body))
replay_pi mode before target body fits =
    one_line mode before (63 ∷ (target ++ (32 ∷ escaped body))) (Pi target body) (event.Pi target body) _
    (judge_good mode before (63 ∷ (target ++ (32 ∷ escaped body))) (Pi target body) (pi_is target body fits.named fits.made)
    (ap (λ v. cond v (Some SecondRoot) None) (no_second (is_fragment mode) (at_top before) (has_item mode before) fits.room)))
    (own_event mode before (suc (length before)) (event.Pi target body)) refl

replay_comment : (mode : Mode) (before : List Line) (text : List ℕ) → Fits mode (place_of mode before) (event.Comment text) →
    Replays mode before (raw (event.Comment text)) (event.Comment text ∷ [])
    (after mode (place_of mode before) (event.Comment text))
replay_comment mode before text fits =
    one_line mode before (67 ∷ escaped text) (Comment text) (event.Comment text) _
    (judge_good mode before (67 ∷ escaped text) (Comment text) (comment_is text fits.made)
    (ap (λ v. cond v (Some SecondRoot) None) (no_second (is_fragment mode) (at_top before) (has_item mode before) fits.room)))
    (own_event mode before (suc (length before)) (event.Comment text)) refl

-- characters after what isn't characters
begin_some : (number : ℕ) (text : List ℕ) → text ≢ [] → begin_text number text ≡ Some (located number (event.Chars text))
begin_some number [] some = absurd (some refl)
begin_some number (b ∷ text) some = refl

onto_some : (number : ℕ) (text : List ℕ) (line : ℕ) (e : Event) → is_chars e ≡ false → text ≢ [] →
    text_onto number text line e ≡ Some (located number (event.Chars text))
onto_some number text line (event.Start name attrs) apart some = begin_some number text some
onto_some number text line (event.End name) apart some = begin_some number text some
onto_some number text line (event.Chars had) apart some = absurd (cc)
onto_some number text line (event.Pi target body) apart some = begin_some number text some
onto_some number text line (event.Comment comment) apart some = begin_some number text some

with_some : (number : ℕ) (text : List ℕ) (begun : Option Located) → is_text begun ≡ false → text ≢ [] →
    with_text number text begun ≡ Some (located number (event.Chars text))
with_some number text None apart some = begin_some number text some
with_some number text (Some p) apart some = onto_some number text p.line p.event apart some

not_nil : (text : List ℕ) → text ≢ [] → not (is_nil text) ≡ true
not_nil [] some = absurd (some refl)
not_nil (b ∷ text) some = refl

chars_line_in : (mode : Mode) (before : List Line) (text : List ℕ) → kept (is_outside mode before) text ≡ text →
    misplaced mode before (Chars text) ≡ None → has_item mode (Chars text ∷ before) ≡ true →
    CharsFit mode (place_of mode before) text →
    Replays mode before (raw (event.Chars text)) (event.Chars text ∷ []) (after mode (place_of mode before) (event.Chars text))
chars_line_in mode before text all good item fits =
    let begun : pending mode (Chars text ∷ before) ≡ Some (located (suc (length before)) (event.Chars text)) =
    ap (λ t. with_text (suc (length before)) t (pending mode before)) all
    ∙ with_some (suc (length before)) text (pending mode before) fits.apart fits.some in
    let but : but_text (pending mode before) ≡ option_to_list (pending mode before) = rw fits.apart refl in
    one_line mode before (45 ∷ escaped text) (Chars text) (event.Chars text) _
    (judge_good mode before (45 ∷ escaped text) (Chars text) (chars_is text fits.made) good)
    (ap (λ b. bare ((closed mode before ++ but_text (pending mode before)) ++ option_to_list b)) begun
    ∙ (ap (λ b. bare ((closed mode before ++ b) ++ located (suc (length before)) (event.Chars text) ∷ [])) but
    ∙ bare_append (ended mode before) (located (suc (length before)) (event.Chars text) ∷ [])))
    (ap (λ b. record { opened = open_names before; begun = has_item mode (Chars text ∷ before); after_chars = is_text b }) begun
    ∙ ap (λ v. record { opened = open_names before; begun = v; after_chars = true }) item)

replay_chars : (mode : Mode) (before : List Line) (text : List ℕ) → CharsFit mode (place_of mode before) text →
    Replays mode before (raw (event.Chars text)) (event.Chars text ∷ []) (after mode (place_of mode before) (event.Chars text))
replay_chars Document before text fits =
    let top = fits.inside refl in
    chars_line_in Document before text (rw top refl) (rw top refl) (open_item Document before top) fits
replay_chars Fragment before text fits =
    let some = not_nil text fits.some in
    let second : is_second Fragment before (Chars text) ≡ false =
    no_second (not (is_nil text)) (at_top before) (has_item Fragment before) (λ s. fits.room refl) in
    chars_line_in Fragment before text refl (rw second refl) (rw some refl) fits

-- the attributes of a start
pub record Attributes (mode : Mode) (before : List Line) (lines : List (List ℕ)) (e : Event) : Type 0 where
  pub good : List Line
  pub judged_is : (more : List (List ℕ)) → judged mode before (lines ++ more) ≡ judged mode good more
  pub events_are : bare (ended mode good) ≡ bare (closed mode before) ++ e ∷ []
  pub place_is : place_of mode good ≡ place_of mode before

replay_attrs : (mode : Mode) (before : List Line) (attrs had : List Attr) (line : ℕ) (name : List ℕ) →
    pending mode before ≡ Some (located line (event.Start name had)) → list_all is_attr attrs ≡ true →
    Attributes mode before (map attr_raw attrs) (event.Start name (had ++ attrs))
replay_attrs mode before [] had line name begun made = record {
  good = before;
  judged_is = λ more. refl;
  events_are = ap (λ b. bare (closed mode before ++ option_to_list b)) begun
      ∙ (bare_append (closed mode before) (located line (event.Start name had) ∷ [])
      ∙ ap (λ a. bare (closed mode before) ++ event.Start name a ∷ []) (sym (append-nil had)));
  place_is = refl;
}
replay_attrs mode before (attr ∷ attrs) had line name begun made =
    let here = and_parts (is_attr attr) _ made in
    let takes : takes_attribute before ≡ true = sym (begins_takes mode before) ∙ ap begins begun in
    let next : pending mode (Attribute attr ∷ before) ≡ Some (located line (event.Start name (had ++ attr ∷ []))) =
    ap (with_attr attr) begun in
    let good = judge_good mode before (attr_raw attr) (Attribute attr) (attr_is attr here.0)
    (ap (λ v. cond v None (Some AttributePlace)) takes) in
    let rest = replay_attrs mode (Attribute attr ∷ before) attrs (had ++ attr ∷ []) line name next here.1 in
    record {
      good = rest.good;
      judged_is = λ more. rw good (rest.judged_is more);
      events_are = rest.events_are ∙ (ap (λ l. bare l ++ event.Start name ((had ++ attr ∷ []) ++ attrs) ∷ []) (append-nil (closed mode before))
          ∙ ap (λ a. bare (closed mode before) ++ event.Start name a ∷ []) (append_assoc had (attr ∷ []) attrs));
      place_is = rest.place_is
          ∙ ap (λ v. record { opened = open_names before; begun = has_item mode before; after_chars = v })
          (ap is_text next ∙ sym (ap is_text begun));
    }

replay_start : (mode : Mode) (before : List Line) (name : List ℕ) (attrs : List Attr) →
    Fits mode (place_of mode before) (event.Start name attrs) →
    Replays mode before (raw (event.Start name attrs)) (event.Start name attrs ∷ [])
    (after mode (place_of mode before) (event.Start name attrs))
replay_start mode before name attrs fits =
    let good = judge_good mode before (40 ∷ name) (Start name) (start_is name fits.named)
    (ap (λ v. cond v (Some SecondRoot) None) fits.room) in
    let rest = replay_attrs mode (Start name ∷ before) attrs [] (suc (length before)) name refl fits.attributes in
    record {
      good = rest.good;
      judged_is = λ more. rw good (rest.judged_is more);
      events_are = rest.events_are;
      place_is = rest.place_is;
    }

-- the open names are names
pub name_of : (name : List ℕ) (names : List (List ℕ)) → names ≡ name ∷ outer names → list_all is_name names ≡ true → is_name name ≡ true
name_of name names is all = (and_parts (is_name name) _ (ap (list_all is_name) (sym is) ∙ all)).0

pub outer_named : (names : List (List ℕ)) → list_all is_name names ≡ true → list_all is_name (outer names) ≡ true
outer_named [] h = refl
outer_named (name ∷ names) h = (and_parts (is_name name) _ h).1

pub named_after : (mode : Mode) (place : Place) (e : Event) → Fits mode place e → list_all is_name place.opened ≡ true →
    list_all is_name (after mode place e).opened ≡ true
named_after mode place (event.Start name attrs) fits h = and_from _ _ fits.named h
named_after mode place (event.End name) fits h = outer_named place.opened h
named_after mode place (event.Chars text) fits h = h
named_after mode place (event.Pi target body) fits h = h
named_after mode place (event.Comment text) fits h = h

replay : (mode : Mode) (before : List Line) (e : Event) → Fits mode (place_of mode before) e →
    list_all is_name (open_names before) ≡ true →
    Replays mode before (raw e) (e ∷ []) (after mode (place_of mode before) e)
replay mode before (event.Start name attrs) fits h = replay_start mode before name attrs fits
replay mode before (event.End name) fits h = replay_end mode before name fits (name_of name (open_names before) fits h)
replay mode before (event.Chars text) fits h = replay_chars mode before text fits
replay mode before (event.Pi target body) fits h = replay_pi mode before target body fits
replay mode before (event.Comment text) fits h = replay_comment mode before text fits

-- the lines of events
abbrev pub raws : List Event → List (List ℕ)
raws [] = []
raws (e ∷ events) = raw e ++ raws events

pub replay_all : (mode : Mode) (before : List Line) (events : List Event) → Nest mode (place_of mode before) events →
    list_all is_name (open_names before) ≡ true →
    Replays mode before (raws events) events (place_after mode (place_of mode before) events)
replay_all mode before [] nests h = record {
  good = before;
  judged_is = λ more. refl;
  events_are = sym (append-nil (bare (ended mode before)));
  place_is = refl;
}
replay_all mode before (e ∷ events) nests h =
    let one = replay mode before e nests.0 h in
    let named : list_all is_name (open_names one.good) ≡ true =
    ap (λ p. list_all is_name p.opened) one.place_is ∙ named_after mode (place_of mode before) e nests.0 h in
    let rest = replay_all mode one.good events (rw one.place_is nests.1) named in
    record {
      good = rest.good;
      judged_is = λ more. ap (judged mode before) (append_assoc (raw e) (raws events) more)
          ∙ (one.judged_is (raws events ++ more) ∙ rest.judged_is more);
      events_are = rest.events_are ∙ (ap (λ l. l ++ events) one.events_are ∙ append_assoc (bare (ended mode before)) (e ∷ []) events);
      place_is = rest.place_is ∙ ap (λ p. place_after mode p events) one.place_is;
    }
