-- The events of lines nest.
use Rattle.std.proofs.Common.{◌≡◌, ◌≢◌, ℕ, suc, ◌<◌, ◌≤◌, ⊎_elim, Bool, true, false, ◌&&◌, ◌||◌, ◌==◌, not, cond, List, [], ◌∷◌, ◌++◌, length, Option, None, Some, Result, Ok, Err, arith, refl, sym, ◌∙◌, ap, append_assoc}
use Rattle.std.specs.List.{list_all, after_first}
use Rattle.std.specs.Option.{option_to_list}
use Rattle.std.specs.Str.{chars, is_utf8}
use Rattle.std.proofs.Math.Bool.{or-true, and-true}
use Rattle.std.proofs.lemmas.Str.{IsUtf8-nil, chars-nil}
use Rattle.pyx_core.specs.Lines.{ended_lines, unended}
use Rattle.pyx_core.specs.declared.fault.PyxFault.{PyxFault}
use Rattle.std.proofs.lemmas.Bool.{cases_lt, and_parts, and_from}
use Rattle.std.proofs.lemmas.Bool.Decides.{nat_tests}
use Rattle.std.proofs.lemmas.Slice.Eq.{bytes_eq-Decides}
use Rattle.std.proofs.lemmas.List.{append-nil, map-append}
use Rattle.sch_base.specs.Lists.{is_nil}
use Rattle.sch_base.specs.Characters.{is_xml_char}
use Rattle.pyx_core.specs.declared.event.Attr.{Attr}
use Rattle.pyx_core.specs.declared.event.Event.{Event}
use Rattle.pyx_core.specs.declared.event.Event.TheVariants as event
use Rattle.pyx_core.specs.declared.event.Located.{Located}
use Rattle.pyx_core.specs.declared.fault.PyxKind.{PyxKind}
use Rattle.pyx_core.specs.declared.fault.PyxKind.TheVariants.{BadName, UnknownLine}
use Rattle.pyx_core.specs.declared.line_table.Line.{Line}
use Rattle.pyx_core.specs.declared.line_table.Line.TheVariants.{Skipped, Start, Attribute, End, Chars, Pi, Comment}
use Rattle.pyx_core.specs.declared.mode.Mode.{Mode}
use Rattle.pyx_core.specs.declared.mode.Mode.TheVariants.{Document, Fragment}
use Rattle.pyx_core.specs.Before.{is_fragment, outer, open_names, at_top, is_innermost, takes_attribute, has_item, is_second, located, is_outside, kept, attr_onto, with_attr, begin_text, text_onto, with_text, pending, is_chars, is_text, but_text, closed, misplaced, lacking}
use Rattle.pyx_core.specs.LineTable.{is_qname, is_target, is_space, name_part, text_part, read_start, read_end, read_attribute, read_pi, read_chars, read_comment, read_marked, read_text, line_of}
use Rattle.pyx_core.specs.Nesting.{Place, start, after, of_chars, is_name, is_pi_name, is_attr, CharsFit, Fits, Nest, place_after, IsEnd, bare, EventsNest}
use Rattle.pyx_core.specs.Reading.{unless, placed, judge, judged, and_then, ended, so_far, in_all, completed, events_of, fault_of, or_lacking, end_fault}
use Rattle.pyx_core.proofs.TextLemmas.{of_chars_append, behind_ascii, parts_made, made_of}
use Rattle.pyx_core.proofs.EscapeLemmas.{unescaped_made}
use Rattle.pyx_core.proofs.StandingLemmas.{begins, begins_takes, is_start}

-- what a good line is made of
abbrev pub WellMade : Line → Type 0
WellMade Skipped = Unit {0}
WellMade (Start name) = is_name name ≡ true
WellMade (Attribute attr) = is_attr attr ≡ true
WellMade (End name) = is_name name ≡ true
WellMade (Chars text) = of_chars text ≡ true
WellMade (Pi target body) = (is_pi_name target ≡ true) × (of_chars body ≡ true)
WellMade (Comment text) = of_chars text ≡ true

abbrev pub IfMade : Result Line PyxKind → Type 0
IfMade (Ok line) = WellMade line
IfMade (Err kind) = Unit {0}

if_made : (v : Bool) (one other : Result Line PyxKind) → IfMade one → IfMade other → IfMade (cond v one other)
if_made true one other a b = a
if_made false one other a b = b

named : (v : Bool) (line : Line) → (v ≡ true → WellMade line) → IfMade (cond v (Ok line) (Err BadName))
named true line h = h refl
named false line h = tt

marked_made : (mark : ℕ) (body : List ℕ) → of_chars body ≡ true → IfMade (read_marked mark body)
marked_made mark body h =
    let parts = parts_made body h in
    if_made (mark == 40) (read_start body) _ (named (is_qname body) (Start body) (λ q. and_from _ _ h q))
    (if_made (mark == 65) (read_attribute body) _
    (named (is_qname (name_part body)) (Attribute (record { name = name_part body; value = text_part body }))
    (λ q. and_from _ _ (and_from _ _ parts.0 q) (unescaped_made (after_first is_space body) parts.1)))
    (if_made (mark == 41) (read_end body) _ (named (is_qname body) (End body) (λ q. and_from _ _ h q))
    (if_made (mark == 45 || mark == 91) (read_chars body) _ (unescaped_made body h)
    (if_made (mark == 63) (read_pi body) _
    (named (is_target (name_part body)) (Pi (name_part body) (text_part body))
    (λ q. (and_from _ _ parts.0 q, unescaped_made (after_first is_space body) parts.1)))
    (if_made (mark == 67) (read_comment body) _ (unescaped_made body h)
    (if_made (mark == 68 || mark == 78 || mark == 85) (Ok Skipped) _ tt
    (if_made (mark == 38) (Err _) (Err UnknownLine) tt tt)))))))

unknown_mark : (mark : ℕ) (body : List ℕ) → 128 ≤ mark → read_marked mark body ≡ Err UnknownLine
unknown_mark mark body high = grind (arith, nat_tests)

text_made : (bytes : List ℕ) → of_chars bytes ≡ true → IfMade (read_text bytes)
text_made [] h = tt
text_made (mark ∷ body) h = ⊎_elim
    (λ (low : mark < 128). marked_made mark body (behind_ascii mark body low h))
    (λ (high : 128 ≤ mark). rw (unknown_mark mark body high) tt) (cases_lt mark 128)

line_by : (bytes : List ℕ) (v w : Bool) → is_utf8 bytes ≡ v → list_all is_xml_char (chars bytes) ≡ w → IfMade (line_of bytes)
line_by bytes true true utf8 made = rw (utf8, made) (text_made bytes (and_from _ _ utf8 made))
line_by bytes true false utf8 made = rw (utf8, made) tt
line_by bytes false w utf8 made = rw utf8 tt

pub line_made : (bytes : List ℕ) → IfMade (line_of bytes)
line_made bytes = line_by bytes (is_utf8 bytes) (list_all is_xml_char (chars bytes)) refl refl

-- a good line in its place
abbrev pub IfGood : Mode → List Line → Result Line PyxKind → Type 0
IfGood mode before (Ok line) = WellMade line × (misplaced mode before line ≡ None)
IfGood mode before (Err kind) = Unit {0}

good_unless : (mode : Mode) (before : List Line) (line : Line) (breaks : Option PyxKind) → WellMade line →
    misplaced mode before line ≡ breaks → IfGood mode before (unless line breaks)
good_unless mode before line None made is = (made, is)
good_unless mode before line (Some kind) made is = tt

pub good_placed : (mode : Mode) (before : List Line) (found : Result Line PyxKind) → IfMade found → IfGood mode before (placed mode before found)
good_placed mode before (Ok line) made = good_unless mode before line (misplaced mode before line) made refl
good_placed mode before (Err kind) made = tt

-- the events nest, and this is the place after them
pub record Well (mode : Mode) (events : List Event) (place : Place) : Type 0 where
  pub nests : Nest mode start events
  pub place_is : place_after mode start events ≡ place

pub parts : (mode : Mode) (place : Place) (front back : List Event) → Nest mode place (front ++ back) →
    Nest mode place front × Nest mode (place_after mode place front) back
parts mode place [] back h = (tt, h)
parts mode place (e ∷ front) back h =
    let rest = parts mode (after mode place e) front back h.1 in ((h.0, rest.0), rest.1)

pub placed_joined : (mode : Mode) (place : Place) (front back : List Event) →
    place_after mode place (front ++ back) ≡ place_after mode (place_after mode place front) back
placed_joined mode place [] back = refl
placed_joined mode place (e ∷ front) back = placed_joined mode (after mode place e) front back

pub nest_joined : (mode : Mode) (place : Place) (front back : List Event) → Nest mode place front →
    Nest mode (place_after mode place front) back → Nest mode place (front ++ back)
nest_joined mode place [] back one other = other
nest_joined mode place (e ∷ front) back one other = (one.0, nest_joined mode (after mode place e) front back one.1 other)

-- one event more
pub well_more : (mode : Mode) (events : List Event) (place : Place) (e : Event) → Well mode events place → Fits mode place e →
    Well mode (events ++ e ∷ []) (after mode place e)
well_more mode events place e well fits = record {
  nests = nest_joined mode start events (e ∷ []) well.nests (rw well.place_is (fits, tt));
  place_is = placed_joined mode start events (e ∷ []) ∙ ap (λ p. after mode p e) well.place_is;
}

-- another last event
pub well_other : (mode : Mode) (events : List Event) (place : Place) (e f : Event) → Well mode (events ++ e ∷ []) place →
    ((p : Place) → Fits mode p e → after mode p e ≡ place → Fits mode p f) →
    Well mode (events ++ f ∷ []) (after mode (place_after mode start events) f)
well_other mode events place e f well fits =
    let both_parts = parts mode start events (e ∷ []) well.nests in
    let here : after mode (place_after mode start events) e ≡ place =
    sym (placed_joined mode start events (e ∷ [])) ∙ well.place_is in
    record {
      nests = nest_joined mode start events (f ∷ []) both_parts.0 (fits (place_after mode start events) both_parts.1.0 here, tt);
      place_is = placed_joined mode start events (f ∷ []);
    }

-- the place after the events of these lines
abbrev pub place_of : Mode → List Line → Place
place_of mode before = record {
  opened = open_names before;
  begun = has_item mode before;
  after_chars = is_text (pending mode before);
}

abbrev pub Nested : Mode → List Line → Type 0
Nested mode before = Well mode (bare (ended mode before)) (place_of mode before)

pub bare_append : (xs ys : List Located) → bare (xs ++ ys) ≡ bare xs ++ bare ys
bare_append xs ys = map-append (λ found. found.event) xs ys

-- an event of its own
own : (mode : Mode) (before : List Line) (number : ℕ) (e : Event) (place : Place) → Nested mode before →
    Fits mode (place_of mode before) e → after mode (place_of mode before) e ≡ place →
    Well mode (bare ((closed mode before ++ (option_to_list (pending mode before) ++ located number e ∷ [])) ++ [])) place
own mode before number e place well fits is =
    let events : (closed mode before ++ (option_to_list (pending mode before) ++ located number e ∷ [])) ++ []
    ≡ ended mode before ++ located number e ∷ [] =
    append-nil _ ∙ sym (append_assoc (closed mode before) (option_to_list (pending mode before)) (located number e ∷ [])) in
    rw (events, bare_append (ended mode before) (located number e ∷ []), ← is)
    (well_more mode (bare (ended mode before)) (place_of mode before) e well fits)

none_if : (v : Bool) (kind : PyxKind) → cond v (Some kind) None ≡ None → v ≡ false
none_if true kind h = absurd (cc)
none_if false kind h = refl

none_unless : (v : Bool) (kind : PyxKind) → cond v None (Some kind) ≡ None → v ≡ true
none_unless true kind h = refl
none_unless false kind h = absurd (cc)

start_nests : (mode : Mode) (before : List Line) (name : List ℕ) → Nested mode before → is_name name ≡ true →
    is_second mode before (Start name) ≡ false → Nested mode (Start name ∷ before)
start_nests mode before name well made second =
    rw (bare_append (ended mode before) (located (suc (length before)) (event.Start name []) ∷ []))
    (well_more mode (bare (ended mode before)) (place_of mode before) (event.Start name []) well
    (record { room = second; named = made; attributes = refl }))

pub innermost : (name : List ℕ) (names : List (List ℕ)) → is_innermost name names ≡ true → names ≡ name ∷ outer names
innermost name [] h = absurd (cc)
innermost name (top ∷ names) h = ap (λ n. n ∷ names) ((bytes_eq-Decides top name).0 h)

end_nests : (mode : Mode) (before : List Line) (name : List ℕ) → Nested mode before →
    is_innermost name (open_names before) ≡ true → Nested mode (End name ∷ before)
end_nests mode before name well h =
    own mode before (suc (length before)) (event.End name) (place_of mode (End name ∷ before)) well
    (innermost name (open_names before) h) refl

pi_nests : (mode : Mode) (before : List Line) (target body : List ℕ) → Nested mode before → is_pi_name target ≡ true →
    of_chars body ≡ true → is_second mode before (Pi target body) ≡ false → Nested mode (Pi target body ∷ before)
pi_nests mode before target body well named made second =
    own mode before (suc (length before)) (event.Pi target body) (place_of mode (Pi target body ∷ before)) well
    (record { room = λ f. rw f at second; named = named; made = made }) refl

comment_nests : (mode : Mode) (before : List Line) (text : List ℕ) → Nested mode before →
    of_chars text ≡ true → is_second mode before (Comment text) ≡ false → Nested mode (Comment text ∷ before)
comment_nests mode before text well made second =
    own mode before (suc (length before)) (event.Comment text) (place_of mode (Comment text ∷ before)) well
    (record { room = λ f. rw f at second; made = made }) refl

-- an attribute more
attr_all : (attrs : List Attr) (attr : Attr) → list_all is_attr attrs ≡ true → is_attr attr ≡ true →
    list_all is_attr (attrs ++ attr ∷ []) ≡ true
attr_all [] attr all one = rw one refl
attr_all (a ∷ attrs) attr all one = let here = and_parts (is_attr a) _ all in and_from _ _ here.0 (attr_all attrs attr here.1 one)

attr_event : (mode : Mode) (done : List Located) (place : Place) (attr : Attr) (line : ℕ) (e : Event) → is_start e ≡ true →
    is_attr attr ≡ true → Well mode (bare (done ++ located line e ∷ [])) place → place.after_chars ≡ false →
    Well mode (bare ((done ++ []) ++ located line (attr_onto attr e) ∷ [])) place
attr_event mode done place attr line (event.Start name attrs) begun made well apart =
    let old = rw (bare_append done (located line (event.Start name attrs) ∷ [])) at well in
    let new = well_other mode (bare done) place (event.Start name attrs) (event.Start name (attrs ++ attr ∷ [])) old
    (λ p fits is. record { room = fits.room; named = fits.named; attributes = attr_all attrs attr fits.attributes made }) in
    let here : after mode (place_after mode start (bare done)) (event.Start name attrs) ≡ place =
    sym (placed_joined mode start (bare done) (event.Start name attrs ∷ [])) ∙ old.place_is in
    rw (append-nil done, bare_append done (located line (event.Start name (attrs ++ attr ∷ [])) ∷ []))
    (record { nests = new.nests; place_is = new.place_is ∙ here })
attr_event mode done place attr line (event.End name) begun made well apart = absurd (cc)
attr_event mode done place attr line (event.Chars text) begun made well apart = absurd (cc)
attr_event mode done place attr line (event.Pi target body) begun made well apart = absurd (cc)
attr_event mode done place attr line (event.Comment text) begun made well apart = absurd (cc)

attr_onto_text : (attr : Attr) (e : Event) → is_start e ≡ true → is_chars (attr_onto attr e) ≡ false
attr_onto_text attr (event.Start name attrs) h = refl
attr_onto_text attr (event.End name) h = absurd (cc)
attr_onto_text attr (event.Chars text) h = absurd (cc)
attr_onto_text attr (event.Pi target body) h = absurd (cc)
attr_onto_text attr (event.Comment text) h = absurd (cc)

start_no_text : (e : Event) → is_start e ≡ true → is_chars e ≡ false
start_no_text (event.Start name attrs) h = refl
start_no_text (event.End name) h = absurd (cc)
start_no_text (event.Chars text) h = absurd (cc)
start_no_text (event.Pi target body) h = absurd (cc)
start_no_text (event.Comment text) h = absurd (cc)

attr_pending : (mode : Mode) (done : List Located) (opened : List (List ℕ)) (item : Bool) (attr : Attr) (begun : Option Located) →
    begins begun ≡ true → is_attr attr ≡ true →
    Well mode (bare (done ++ option_to_list begun)) (record { opened = opened; begun = item; after_chars = is_text begun }) →
    Well mode (bare ((done ++ []) ++ option_to_list (with_attr attr begun)))
    (record { opened = opened; begun = item; after_chars = is_text (with_attr attr begun) })
attr_pending mode done opened item attr None h made well = absurd (cc)
attr_pending mode done opened item attr (Some p) h made well =
    let one = start_no_text p.event h in
    let other = attr_onto_text attr p.event h in
    rw other (attr_event mode done _ attr p.line p.event h made (rw one at well) refl)

attribute_nests : (mode : Mode) (before : List Line) (attr : Attr) → Nested mode before → is_attr attr ≡ true →
    takes_attribute before ≡ true → Nested mode (Attribute attr ∷ before)
attribute_nests mode before attr well made takes =
    attr_pending mode (closed mode before) (open_names before) (has_item mode before) attr (pending mode before)
    (begins_takes mode before ∙ takes) made well

outer_some : (names : List (List ℕ)) → is_nil (outer names) ≡ false → is_nil names ≡ false
outer_some [] h = h
outer_some (name ∷ names) h = refl

-- an open element has begun
pub open_item : (mode : Mode) (before : List Line) → at_top before ≡ false → has_item mode before ≡ true
open_item mode [] h = absurd (cc)
open_item mode (Skipped ∷ before) h = open_item mode before h
open_item mode (Start name ∷ before) h = refl
open_item mode (Attribute attr ∷ before) h = open_item mode before h
open_item mode (End name ∷ before) h = open_item mode before (outer_some (open_names before) h)
open_item mode (Chars text ∷ before) h = rw (open_item mode before h) (or-true (is_fragment mode && not (is_nil text)))
open_item mode (Pi target body ∷ before) h = rw (open_item mode before h) (or-true (is_fragment mode))
open_item mode (Comment text ∷ before) h = rw (open_item mode before h) (or-true (is_fragment mode))

-- characters begin
abbrev pub behind_text : Place → ℕ → List ℕ → Place
behind_text place number text =
    record { opened = place.opened; begun = not (is_nil text) || place.begun; after_chars = is_text (begin_text number text) }

text_begun : (mode : Mode) (done : List Located) (place : Place) (number : ℕ) (text : List ℕ) → Well mode (bare done) place →
    place.after_chars ≡ false → (text ≢ [] → CharsFit mode place text) →
    Well mode (bare (done ++ option_to_list (begin_text number text))) (behind_text place number text)
text_begun mode done place number [] well apart fits =
    rw (append-nil done) (record { nests = well.nests; place_is = well.place_is ∙ rw apart refl })
text_begun mode done place number (b ∷ text) well apart fits =
    rw (bare_append done (located number (event.Chars (b ∷ text)) ∷ []))
    (well_more mode (bare done) place (event.Chars (b ∷ text)) well (fits (λ e. absurd (cc))))

-- characters after an event
not_nil_append : (had text : List ℕ) → had ≢ [] → had ++ text ≢ []
not_nil_append [] text some = λ e. some refl
not_nil_append (b ∷ had) text some = λ e. absurd (cc)

chars_joined : (mode : Mode) (done : List Located) (opened : List (List ℕ)) (item : Bool) (line : ℕ) (had text : List ℕ) →
    Well mode (bare (done ++ located line (event.Chars had) ∷ [])) (record { opened = opened; begun = item; after_chars = true }) →
    of_chars text ≡ true →
    Well mode (bare ((done ++ []) ++ located line (event.Chars (had ++ text)) ∷ []))
    (record { opened = opened; begun = true; after_chars = true })
    × (item ≡ true)
chars_joined mode done opened item line had text well made =
    let place : Place = record { opened = opened; begun = item; after_chars = true } in
    let old = rw (bare_append done (located line (event.Chars had) ∷ [])) at well in
    let new = well_other mode (bare done) place (event.Chars had) (event.Chars (had ++ text)) old
    (λ p fits is. record {
      inside = fits.inside;
      room = fits.room;
      apart = fits.apart;
      some = not_nil_append had text fits.some;
      made = of_chars_append had text fits.made made;
    }) in
    let here : after mode (place_after mode start (bare done)) (event.Chars had) ≡ place =
    sym (placed_joined mode start (bare done) (event.Chars had ∷ [])) ∙ old.place_is in
    let open_is : (place_after mode start (bare done)).opened ≡ opened = ap (λ p. p.opened) here in
    let all : true ≡ item = ap (λ p. p.begun) here in (
      rw (append-nil done, bare_append done (located line (event.Chars (had ++ text)) ∷ []))
          (record { nests = new.nests; place_is = new.place_is ∙ rw open_is refl }),
      sym all,
    )

-- characters after what is begun
pub record Joins (mode : Mode) (opened : List (List ℕ)) (item more : Bool) (text : List ℕ) (behind : Bool) : Type 0 where
  pub made : of_chars text ≡ true
  pub fits : behind ≡ false → text ≢ [] → CharsFit mode (record { opened = opened; begun = item; after_chars = false }) text
  pub goes_on : item ≡ true → more ≡ true
  pub begins_item : behind ≡ false → (not (is_nil text) || item) ≡ more

chars_fresh : (mode : Mode) (done : List Located) (opened : List (List ℕ)) (item more : Bool) (number : ℕ) (text : List ℕ) →
    Well mode (bare done) (record { opened = opened; begun = item; after_chars = false }) →
    Joins mode opened item more text false →
    Well mode (bare (done ++ option_to_list (begin_text number text)))
    (record { opened = opened; begun = more; after_chars = is_text (begin_text number text) })
chars_fresh mode done opened item more number text well joins =
    rw (joins.begins_item refl) at
    (text_begun mode done (record { opened = opened; begun = item; after_chars = false }) number text well refl (joins.fits refl))

chars_behind : (mode : Mode) (done : List Located) (opened : List (List ℕ)) (item more : Bool) (number : ℕ) (text : List ℕ)
    (line : ℕ) (e : Event) →
    Well mode (bare (done ++ located line e ∷ [])) (record { opened = opened; begun = item; after_chars = is_chars e }) →
    Joins mode opened item more text (is_chars e) →
    Well mode (bare ((done ++ but_text (Some (located line e))) ++ option_to_list (text_onto number text line e)))
    (record { opened = opened; begun = more; after_chars = is_text (text_onto number text line e) })
chars_behind mode done opened item more number text line (event.Start name attrs) well joins =
    chars_fresh mode (done ++ located line (event.Start name attrs) ∷ []) opened item more number text well joins
chars_behind mode done opened item more number text line (event.End name) well joins =
    chars_fresh mode (done ++ located line (event.End name) ∷ []) opened item more number text well joins
chars_behind mode done opened item more number text line (event.Chars had) well joins =
    let new = chars_joined mode done opened item line had text well joins.made in
    rw (joins.goes_on new.1) new.0
chars_behind mode done opened item more number text line (event.Pi target body) well joins =
    chars_fresh mode (done ++ located line (event.Pi target body) ∷ []) opened item more number text well joins
chars_behind mode done opened item more number text line (event.Comment comment) well joins =
    chars_fresh mode (done ++ located line (event.Comment comment) ∷ []) opened item more number text well joins

chars_pending : (mode : Mode) (done : List Located) (opened : List (List ℕ)) (item more : Bool) (number : ℕ) (text : List ℕ)
    (begun : Option Located) →
    Well mode (bare (done ++ option_to_list begun)) (record { opened = opened; begun = item; after_chars = is_text begun }) →
    Joins mode opened item more text (is_text begun) →
    Well mode (bare ((done ++ but_text begun) ++ option_to_list (with_text number text begun)))
    (record { opened = opened; begun = more; after_chars = is_text (with_text number text begun) })
chars_pending mode done opened item more number text None well joins =
    chars_fresh mode (done ++ []) opened item more number text well joins
chars_pending mode done opened item more number text (Some p) well joins =
    chars_behind mode done opened item more number text p.line p.event well joins

-- in a document
or_item : (v item : Bool) → item ≡ true → (v || item) ≡ item
or_item v item is = rw is (or-true v)

pub empty_made : of_chars [] ≡ true
empty_made = made_of [] IsUtf8-nil (rw chars-nil refl)

document_joins : (before : List Line) (text : List ℕ) (v : Bool) → at_top before ≡ v → of_chars text ≡ true →
    Joins Document (open_names before) (has_item Document before) (has_item Document before) (kept v text) (is_text (pending Document before))
document_joins before text true top made = record {
  made = empty_made;
  fits = λ apart some. absurd (some refl);
  goes_on = λ item. item;
  begins_item = λ apart. refl;
}
document_joins before text false top made = record {
  made = made;
  fits = λ apart some. record {
    inside = λ f. top;
    room = λ f. absurd (cc);
    apart = refl;
    some = some;
    made = made;
  };
  goes_on = λ item. item;
  begins_item = λ apart. or_item (not (is_nil text)) (has_item Document before) (open_item Document before top);
}

chars_document : (before : List Line) (text : List ℕ) → Nested Document before → of_chars text ≡ true →
    Nested Document (Chars text ∷ before)
chars_document before text well made =
    chars_pending Document (closed Document before) (open_names before) (has_item Document before) (has_item Document before)
    (suc (length before)) (kept (is_outside Document before) text) (pending Document before) well
    (document_joins before text (at_top before) refl made)

-- in a fragment
no_second : (top item is : Bool) (text : List ℕ) → text ≢ [] → is ≡ false →
    (not (is_nil text) && top && item && not is) ≡ false → (top && item) ≡ false
no_second top item is [] some apart h = absurd (some refl)
no_second top item is (b ∷ text) some apart h = sym (and-true (top && item)) ∙ rw apart at h

fragment_joins : (before : List Line) (text : List ℕ) → of_chars text ≡ true →
    (is_second Fragment before (Chars text) && not (is_text (pending Fragment before))) ≡ false →
    Joins Fragment (open_names before) (has_item Fragment before) (not (is_nil text) || has_item Fragment before) text
    (is_text (pending Fragment before))
fragment_joins before text made second = record {
  made = made;
  fits = λ apart some. record {
    inside = λ f. absurd (cc);
    room = λ f. no_second (at_top before) (has_item Fragment before) (is_text (pending Fragment before)) text some apart second;
    apart = refl;
    some = some;
    made = made;
  };
  goes_on = λ item. rw item (or-true (not (is_nil text)));
  begins_item = λ apart. refl;
}

chars_fragment : (before : List Line) (text : List ℕ) → Nested Fragment before → of_chars text ≡ true →
    (is_second Fragment before (Chars text) && not (is_text (pending Fragment before))) ≡ false →
    Nested Fragment (Chars text ∷ before)
chars_fragment before text well made second =
    chars_pending Fragment (closed Fragment before) (open_names before) (has_item Fragment before)
    (not (is_nil text) || has_item Fragment before)
    (suc (length before)) text (pending Fragment before) well (fragment_joins before text made second)

skipped_nests : (mode : Mode) (before : List Line) → Nested mode before → Nested mode (Skipped ∷ before)
skipped_nests mode before well = rw (append-nil (closed mode before)) well

-- a good line more
step : (mode : Mode) (before : List Line) (line : Line) → Nested mode before → WellMade line → misplaced mode before line ≡ None →
    Nested mode (line ∷ before)
step mode before Skipped well made good = skipped_nests mode before well
step mode before (Start name) well made good = start_nests mode before name well made (none_if _ _ good)
step mode before (Attribute attr) well made good = attribute_nests mode before attr well made (none_unless _ _ good)
step mode before (End name) well made good = end_nests mode before name well (none_unless _ _ good)
step Document before (Chars text) well made good = chars_document before text well made
step Fragment before (Chars text) well made good = chars_fragment before text well made (none_if _ _ good)
step mode before (Pi target body) well made good = pi_nests mode before target body well made.0 made.1 (none_if _ _ good)
step mode before (Comment text) well made good = comment_nests mode before text well made (none_if _ _ good)

-- what holds of the lines so far holds of all good lines
steps_on : (mode : Mode) (before : List Line) (found : Result Line PyxKind) (lines : List (List ℕ)) → IfGood mode before found →
    Nested mode before → ((line : Line) → Nested mode (line ∷ before) → Nested mode (judged mode (line ∷ before) lines).before) →
    Nested mode (and_then before found (λ line. judged mode (line ∷ before) lines)).before
steps_on mode before (Ok line) lines good well rest = rest line (step mode before line well good.0 good.1)
steps_on mode before (Err kind) lines good well rest = well

judged_nests : (mode : Mode) (before : List Line) (lines : List (List ℕ)) → Nested mode before →
    Nested mode (judged mode before lines).before
judged_nests mode before [] well = well
judged_nests mode before (bytes ∷ lines) well =
    steps_on mode before (judge mode before bytes) lines (good_placed mode before (line_of bytes) (line_made bytes)) well
    (λ line next. judged_nests mode (line ∷ before) lines next)

no_lines : (mode : Mode) → Nested mode []
no_lines mode = record { nests = tt; place_is = refl }

-- a text without fault lacks nothing at its end
whole_by : (mode : Mode) (before : List Line) (v w : Bool) → has_item mode before ≡ v → at_top before ≡ w →
    end_fault before (lacking mode before) ≡ None → (has_item mode before ≡ true) × (at_top before ≡ true)
whole_by mode before true true item top h = (item, top)
whole_by mode before true false item top h = absurd (cc)
whole_by mode before false w item top h = absurd (cc)

whole : (mode : Mode) (before : List Line) (fault : Option PyxFault) → or_lacking mode before fault ≡ None →
    (has_item mode before ≡ true) × (at_top before ≡ true)
whole mode before None h = whole_by mode before (has_item mode before) (at_top before) refl refl h
whole mode before (Some fault) h = absurd (cc)

pub nil_of : (names : List (List ℕ)) → is_nil names ≡ true → names ≡ []
nil_of [] h = refl
nil_of (name ∷ names) h = absurd (cc)

so_far_nests : (mode : Mode) (bytes : List ℕ) → Nest mode start (bare (completed mode bytes))
so_far_nests mode bytes =
    let lines = (so_far mode bytes).before in
    let well = judged_nests mode [] (ended_lines bytes) (no_lines mode) in
    (parts mode start (bare (closed mode lines)) (bare (option_to_list (pending mode lines)))
    (rw (bare_append (closed mode lines) (option_to_list (pending mode lines))) at well.nests)).0

in_all_nests : (mode : Mode) (bytes : List ℕ) → fault_of mode bytes ≡ None →
    Nest mode start (bare (events_of mode bytes)) × IsEnd (place_after mode start (bare (events_of mode bytes)))
in_all_nests mode bytes good =
    let lines = (in_all mode bytes).before in
    let well = judged_nests mode [] (ended_lines bytes ++ unended bytes ∷ []) (no_lines mode) in
    let end = whole mode lines (in_all mode bytes).fault good in (
      well.nests,
      record {
        begun = ap (λ p. p.begun) well.place_is ∙ end.0;
        closed = ap (λ p. p.opened) well.place_is ∙ nil_of (open_names lines) end.1;
      },
    )

pub events_nest : EventsNest
events_nest = record { so_far = so_far_nests; in_all = in_all_nests; parts = parts; joined = placed_joined }
