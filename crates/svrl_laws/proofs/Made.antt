-- The texts of a report are made of Chars (XML 1.0, section 2.2), where its lines have no fault.
use Rattle.std.proofs.Common.{◌≡◌, ◌≢◌, inr, inl, ℕ, Bool, true, false, not, ◌&&◌, List, [], ◌∷◌, ◌++◌, map, Option, None, Some, Result, Ok, Err, refl, sym, ap, ◌∙◌, subst, append-nil, append_assoc, arith, ltb-true}
use Rattle.std.specs.List.{flat_map, list_all}
use Rattle.std.specs.Prelude.{codes, nat_lt}
use Rattle.std.specs.Str.{chars, is_utf8}
use Rattle.std.proofs.lemmas.Bool.{and_from, and_parts}
use Rattle.std.proofs.lemmas.Bool.Decides.{eqb_tells}
use Rattle.std.proofs.lemmas.List.Elements.{All-weaker}
use Rattle.std.proofs.lemmas.List.Folds.{list_all-append, list_any_none}
use Rattle.sch_base.specs.Characters.{is_xml_char}
use Rattle.pyx_core.specs.declared.event.Attr.{Attr}
use Rattle.pyx_core.specs.declared.event.Event.{Event}
use Rattle.pyx_core.specs.declared.event.Event.TheVariants as event
use Rattle.pyx_core.specs.declared.fault.PyxFault.{PyxFault}
use Rattle.pyx_core.specs.declared.fault.PyxKind.{PyxKind}
use Rattle.pyx_core.specs.declared.fault.PyxKind.TheVariants.{BadChar, NotUtf8}
use Rattle.pyx_core.specs.declared.line_table.Line.{Line}
use Rattle.pyx_core.specs.declared.mode.Mode.TheVariants.{Document}
use Rattle.pyx_core.specs.Escapes.{escaped}
use Rattle.pyx_core.specs.Lines.{ended_lines, is_line_end, unended}
use Rattle.pyx_core.specs.LineTable.{line_of}
use Rattle.pyx_core.specs.Nesting.{of_chars}
use Rattle.pyx_core.specs.Reading.{and_then, fault_of, in_all, judge, judged, or_lacking, placed}
use Rattle.pyx_core.specs.Written.{event_lines, text_of}
use Rattle.pyx_core.proofs.EscapeLemmas.{unescaped_made}
use Rattle.pyx_core.proofs.LinesLemmas.{any_none, has_end}
use Rattle.pyx_core.proofs.ReplayLemmas.{raws}
use Rattle.pyx_core.proofs.TextLemmas.{behind_ascii}
use Rattle.pyx_core.proofs.Undoing.{no_line_end, unescaped-escaped}
use Rattle.pyx_core.proofs.WrittenLemmas.{are_lines, attr_raw, event_text, joined, joined_append, joined_ends, raw}
use Rattle.sch_flat.specs.FlatDocument.{characters, element, only_given}
use Rattle.sch_flat_laws.specs.FlatText.{is_made}
use Rattle.svrl_read.specs.declared.value.Ref.{Ref}
use Rattle.svrl_read.specs.declared.value.SvrlFinding.{SvrlFinding}
use Rattle.svrl_read.specs.declared.value.SvrlReport.{SvrlReport}
use Rattle.svrl_read.specs.Lines.{finding_attributes, finding_name, output_attributes, report_lines, rule_attributes}
use Rattle.svrl_laws.specs.ReportEvents.{Item, a_prefix, a_pattern, a_rule, a_finding, held_of, item_events, items_of, message_events, ref_by, ref_events, report_events, texts_of}
use Rattle.svrl_laws.proofs.Texts.{lines_are, text_append}

-- events as lines: none ends within another, and where the lines are made of Chars the texts are
pub record Written (events : List Event) : Type 0 where
  pub text : text_of events ≡ joined (raws events)
  pub plain : are_lines (raws events) ≡ true
  pub made : list_all of_chars (raws events) ≡ true → list_all is_made events ≡ true

raws_append : (xs ys : List Event) → raws (xs ++ ys) ≡ raws xs ++ raws ys
raws_append [] ys = refl
raws_append (x ∷ xs) ys = ap (λ (l : List (List ℕ)). raw x ++ l) (raws_append xs ys) ∙ sym (append_assoc (raw x) (raws xs) (raws ys))

written_nil : Written []
written_nil = record { text = refl; plain = refl; made = λ _. refl }

written_append : (xs ys : List Event) → Written xs → Written ys → Written (xs ++ ys)
written_append xs ys first last = record {
  text =
      text_append xs ys
      ∙ ap (λ (l : List ℕ). l ++ text_of ys) first.text
      ∙ ap (λ (l : List ℕ). joined (raws xs) ++ l) last.text
      ∙ sym (joined_append (raws xs) (raws ys))
      ∙ ap joined (sym (raws_append xs ys));
  plain =
      ap are_lines (raws_append xs ys)
      ∙ list_all-append (λ (line : List ℕ). not (has_end line)) (raws xs) (raws ys)
      ∙ and_from (are_lines (raws xs)) (are_lines (raws ys)) first.plain last.plain;
  made = λ h.
      let parts = and_parts (list_all of_chars (raws xs)) (list_all of_chars (raws ys))
      (sym (list_all-append of_chars (raws xs) (raws ys)) ∙ ap (list_all of_chars) (sym (raws_append xs ys)) ∙ h) in
      list_all-append is_made xs ys ∙ and_from (list_all is_made xs) (list_all is_made ys) (first.made parts.0) (last.made parts.1);
}

written_all : {A : Type 0} (f : A → List Event) → ((x : A) → Written (f x)) → (xs : List A) → Written (flat_map f xs)
written_all f each [] = written_nil
written_all f each (x ∷ xs) = written_append (f x) (flat_map f xs) (each x) (written_all f each xs)

written_one : (e : Event) → ((text : List ℕ) → e ≡ event.Chars text → text ≢ []) → are_lines (raw e) ≡ true →
    (list_all of_chars (raw e) ≡ true → is_made e ≡ true) →
    Written (e ∷ [])
written_one e some plain made = record {
  text = append-nil (event_lines e) ∙ event_text e some ∙ ap joined (sym (append-nil (raw e)));
  plain = ap are_lines (append-nil (raw e)) ∙ plain;
  made = λ h. and_from (is_made e) true (made (ap (list_all of_chars) (sym (append-nil (raw e))) ∙ h)) refl;
}

not_ended : (b : ℕ) → b ≢ 10 → is_line_end b ≡ false
not_ended b differs = elim (eqb_tells b 10) [ inl is ↦ absurd (differs is.1) | inr other ↦ other.0 ]

-- no line ends within what is escaped
escaped_plain : (text : List ℕ) → has_end (escaped text) ≡ false
escaped_plain text =
    list_any_none is_line_end (escaped text) (All-weaker (λ b. b ≢ 10) (λ b. is_line_end b ≡ false) not_ended (escaped text) (no_line_end text))

escaped_back : (text : List ℕ) → of_chars (escaped text) ≡ true → of_chars text ≡ true
escaped_back text h = subst (λ (l : List ℕ). of_chars l ≡ true) (unescaped-escaped text) (unescaped_made (escaped text) h)

-- names in ASCII, within which no line ends
abbrev pub is_low : List ℕ → Bool
is_low name = list_all (λ b. nat_lt b 128) name

abbrev pub is_simple : List ℕ → Bool
is_simple name = is_low name && not (has_end name)

not-true : (v : Bool) → not v ≡ true → v ≡ false
not-true true h = absurd (cc)
not-true false h = refl

record Simple (name : List ℕ) : Type 0 where
  pub low : is_low name ≡ true
  pub whole : has_end name ≡ false

simple : (name : List ℕ) → is_simple name ≡ true → Simple name
simple name h =
    let parts = and_parts (is_low name) (not (has_end name)) h in record { low = parts.0; whole = not-true (has_end name) parts.1 }

behind_name : (name rest : List ℕ) → is_low name ≡ true → of_chars (name ++ rest) ≡ true → of_chars rest ≡ true
behind_name [] rest low h = h
behind_name (b ∷ name) rest low h =
    let parts = and_parts (nat_lt b 128) (is_low name) low in
    behind_name name rest parts.1 (behind_ascii b (name ++ rest) (ltb-true b 128 parts.0) h)

attr_whole : (name value : List ℕ) → has_end name ≡ false → has_end (attr_raw (record { name = name; value = value })) ≡ false
attr_whole name value h = any_none name (32 ∷ escaped value) h (escaped_plain value)

attr_made : (name value : List ℕ) → is_low name ≡ true → of_chars (attr_raw (record { name = name; value = value })) ≡ true → of_chars value ≡ true
attr_made name value low h =
    escaped_back value (behind_ascii 32 (escaped value) (omega arith)
    (behind_name name (32 ∷ escaped value) low (behind_ascii 65 (name ++ (32 ∷ escaped value)) (omega arith) h)))

attrs_whole : (given : List (List ℕ × Option (List ℕ))) → list_all (λ a. is_simple a.0) given ≡ true →
    are_lines (map attr_raw (only_given given)) ≡ true
attrs_whole [] h = refl
attrs_whole ((name, None) ∷ given) h = attrs_whole given (and_parts (is_simple name) (list_all (λ a. is_simple a.0) given) h).1
attrs_whole ((name, Some value) ∷ given) h =
    let parts = and_parts (is_simple name) (list_all (λ a. is_simple a.0) given) h in
    and_from (not (has_end (attr_raw (record { name = name; value = value })))) (are_lines (map attr_raw (only_given given)))
    (ap not (attr_whole name value (simple name parts.0).whole)) (attrs_whole given parts.1)

attrs_made : (given : List (List ℕ × Option (List ℕ))) → list_all (λ a. is_simple a.0) given ≡ true →
    list_all of_chars (map attr_raw (only_given given)) ≡ true → list_all (λ (attr : Attr). of_chars attr.value) (only_given given) ≡ true
attrs_made [] h made = refl
attrs_made ((name, None) ∷ given) h made = attrs_made given (and_parts (is_simple name) (list_all (λ a. is_simple a.0) given) h).1 made
attrs_made ((name, Some value) ∷ given) h made =
    let parts = and_parts (is_simple name) (list_all (λ a. is_simple a.0) given) h in
    let lines = and_parts (of_chars (attr_raw (record { name = name; value = value }))) (list_all of_chars (map attr_raw (only_given given))) made in
    and_from (of_chars value) (list_all (λ (attr : Attr). of_chars attr.value) (only_given given))
    (attr_made name value (simple name parts.0).low lines.0) (attrs_made given parts.1 lines.1)

written_start : (name : List ℕ) (given : List (List ℕ × Option (List ℕ))) → is_simple name ≡ true → list_all (λ a. is_simple a.0) given ≡ true →
    Written (event.Start name (only_given given) ∷ [])
written_start name given named given_so =
    written_one (event.Start name (only_given given)) (λ text is. absurd (cc))
    (and_from (not (has_end (40 ∷ name))) (are_lines (map attr_raw (only_given given))) (ap not (simple name named).whole) (attrs_whole given given_so))
    (λ h. attrs_made given given_so (and_parts (of_chars (40 ∷ name)) (list_all of_chars (map attr_raw (only_given given))) h).1)

written_end : (name : List ℕ) → is_simple name ≡ true → Written (event.End name ∷ [])
written_end name named =
    written_one (event.End name) (λ text is. absurd (cc)) (and_from (not (has_end (41 ∷ name))) true (ap not (simple name named).whole) refl)
    (λ h. refl)

written_element : (name : List ℕ) (given : List (List ℕ × Option (List ℕ))) (held : List Event) → is_simple name ≡ true →
    list_all (λ a. is_simple a.0) given ≡ true →
    Written held → Written (element name given held)
written_element name given held named given_so inside =
    written_append (event.Start name (only_given given) ∷ []) (held ++ event.End name ∷ []) (written_start name given named given_so)
    (written_append held (event.End name ∷ []) inside (written_end name named))

written_characters : (text : List ℕ) → Written (characters text)
written_characters [] = written_nil
written_characters (byte ∷ text) =
    written_one (event.Chars (byte ∷ text)) (λ other is none. absurd (cc))
    (and_from (not (has_end (45 ∷ escaped (byte ∷ text)))) true (ap not (escaped_plain (byte ∷ text))) refl)
    (λ h. escaped_back (byte ∷ text) (behind_ascii 45 (escaped (byte ∷ text)) (omega arith) (and_parts (of_chars (45 ∷ escaped (byte ∷ text))) true h).0))

-- the parts of a report
written_ref : (reference : Ref) → Written (ref_events reference)
written_ref reference = by reference.property
  where
    by : (b : Bool) →
        Written (ref_by b reference)
    by true =
        written_element (codes "svrl:property-reference") ((codes "property", Some reference.name) ∷ []) (characters reference.body) refl refl
        (written_characters reference.body)
    by false =
        written_element (codes "svrl:diagnostic-reference") ((codes "diagnostic", Some reference.name) ∷ []) (characters reference.body) refl refl
        (written_characters reference.body)

written_texts : (finding : SvrlFinding) → Written (texts_of finding)
written_texts finding =
    written_append (flat_map ref_events finding.refs) (message_events finding.message) (written_all ref_events written_ref finding.refs)
    (written_element (codes "svrl:text") [] (characters finding.message) refl refl (written_characters finding.message))

simple_name : (assertion : Bool) → is_simple (finding_name assertion) ≡ true
simple_name true = refl
simple_name false = refl

written_item : (item : Item) → Written (item_events item)
written_item (a_prefix prefix) =
    written_element (codes "svrl:ns-prefix-in-attribute-values")
    ((codes "prefix", Some prefix.prefix) ∷ (codes "uri", Some prefix.uri) ∷ []) [] refl refl written_nil
written_item (a_pattern id) = written_element (codes "svrl:active-pattern") ((codes "id", id) ∷ []) [] refl refl written_nil
written_item (a_rule fired) = written_element (codes "svrl:fired-rule") (rule_attributes fired) [] refl refl written_nil
written_item (a_finding finding) =
    written_element (finding_name finding.assertion) (finding_attributes finding) (texts_of finding) (simple_name finding.assertion) refl
    (written_texts finding)

written_report : (report : SvrlReport) → Written (report_events report)
written_report report =
    written_element (codes "svrl:schematron-output") (output_attributes report) (held_of report) refl refl
    (written_all item_events written_item (items_of report))

-- lines without fault are made of Chars
made_by : (before : List Line) (bytes : List ℕ) (lines : List (List ℕ)) (v w : Bool) → is_utf8 bytes ≡ v → list_all is_xml_char (chars bytes) ≡ w →
    (and_then before (placed Document before (line_of bytes)) (λ line. judged Document (line ∷ before) lines)).fault ≡ None → of_chars bytes ≡ true
made_by before bytes lines true true utf8 made h = and_from (is_utf8 bytes) (list_all is_xml_char (chars bytes)) utf8 made
made_by before bytes lines true false utf8 made h =
    let bad : line_of bytes ≡ Err BadChar = rw (utf8, made) refl in
    let f = sym (ap (λ (found : Result Line PyxKind). (and_then before (placed Document before found) (λ line. judged Document (line ∷ before) lines)).fault) bad) ∙ h in absurd (cc)
made_by before bytes lines false w utf8 made h =
    let bad : line_of bytes ≡ Err NotUtf8 = rw utf8 refl in
    let f = sym (ap (λ (found : Result Line PyxKind). (and_then before (placed Document before found) (λ line. judged Document (line ∷ before) lines)).fault) bad) ∙ h in absurd (cc)

behind_by : (before : List Line) (found : Result Line PyxKind) (lines : List (List ℕ)) →
    (and_then before found (λ line. judged Document (line ∷ before) lines)).fault ≡ None →
    ((line : Line) → (judged Document (line ∷ before) lines).fault ≡ None → list_all of_chars lines ≡ true) → list_all of_chars lines ≡ true
behind_by before (Ok line) lines h each = each line h
behind_by before (Err kind) lines h each = absurd (cc)

made_lines : (before : List Line) (lines : List (List ℕ)) → (judged Document before lines).fault ≡ None → list_all of_chars lines ≡ true
made_lines before [] h = refl
made_lines before (bytes ∷ lines) h =
    and_from (of_chars bytes) (list_all of_chars lines)
    (made_by before bytes lines (is_utf8 bytes) (list_all is_xml_char (chars bytes)) refl refl h)
    (behind_by before (judge Document before bytes) lines h (λ line. made_lines (line ∷ before) lines))

none_in : (before : List Line) (fault : Option PyxFault) → or_lacking Document before fault ≡ None → fault ≡ None
none_in before None h = refl
none_in before (Some fault) h = h

-- so are the texts of a report
pub report_made : (report : SvrlReport) → fault_of Document (report_lines report) ≡ None → list_all is_made (report_events report) ≡ true
report_made report good =
    let w = written_report report in
    let lines = raws (report_events report) in
    let bytes : report_lines report ≡ joined lines = lines_are report ∙ w.text in
    let ends = joined_ends lines w.plain in
    let cut : ended_lines (report_lines report) ++ unended (report_lines report) ∷ [] ≡ lines ++ [] ∷ [] =
    ap (λ (l : List ℕ). ended_lines l ++ unended l ∷ []) bytes
    ∙ ap (λ (l : List (List ℕ)). l ++ unended (joined lines) ∷ []) ends.0
    ∙ ap (λ (l : List ℕ). lines ++ l ∷ []) ends.1 in
    let none : (in_all Document (report_lines report)).fault ≡ None =
    none_in (in_all Document (report_lines report)).before (in_all Document (report_lines report)).fault good in
    let clean : (judged Document [] (lines ++ [] ∷ [])).fault ≡ None =
    ap (λ (l : List (List ℕ)). (judged Document [] l).fault) (sym cut) ∙ none in
    w.made (and_parts (list_all of_chars lines) (list_all of_chars ([] ∷ []))
    (sym (list_all-append of_chars lines ([] ∷ [])) ∙ made_lines [] (lines ++ [] ∷ []) clean)).0
