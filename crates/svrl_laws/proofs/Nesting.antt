-- The lines of a report without fault give its events.
use Rattle.std.proofs.Common.{◌≡◌, ℕ, Bool, true, false, List, [], ◌∷◌, ◌++◌, Option, Some, refl, sym, ap, ◌∙◌, append-nil, append_assoc}
use Rattle.std.specs.List.{flat_map, list_all}
use Rattle.std.specs.Prelude.{codes}
use Rattle.std.proofs.lemmas.Bool.{and_from}
use Rattle.pyx_core.specs.declared.event.Event.{Event}
use Rattle.pyx_core.specs.declared.event.Event.TheVariants as event
use Rattle.pyx_core.specs.declared.mode.Mode.TheVariants.{Document}
use Rattle.pyx_core.specs.Nesting.{IsEnd, Nest, is_name, place_after, start}
use Rattle.sch_base.specs.Characters.{is_name_char, is_name_start, is_xml_char}
use Rattle.sch_base.specs.Names.{QNamesSplit}
use Rattle.sch_flat.specs.FlatDocument.{characters, element}
use Rattle.sch_flat_laws.specs.FlatText.{are_apart, is_made}
use Rattle.sch_flat_laws.proofs.Document.NameLemmas.{names_fit, prefixed_named, spells}
use Rattle.sch_flat_laws.proofs.Document.NestingLemmas.{Inside, document_nests, inside_all, inside_append, inside_characters, inside_element, inside_nil}
use Rattle.svrl_read.specs.declared.value.Ref.{Ref}
use Rattle.svrl_read.specs.declared.value.SvrlFinding.{SvrlFinding}
use Rattle.svrl_read.specs.declared.value.SvrlReport.{SvrlReport}
use Rattle.svrl_read.specs.Lines.{finding_attributes, finding_name, output_attributes, rule_attributes}
use Rattle.svrl_laws.specs.ReportEvents.{Item, a_prefix, a_pattern, a_rule, a_finding, held_of, item_events, items_of, message_events, ref_by, ref_events, report_events, texts_of}

-- no texts meet in the events, nor before what follows them
record Apart (events : List Event) : Type 0 where
  pub goes : (later : List Event) → are_apart false (events ++ later) ≡ are_apart false later

apart_nil : Apart []
apart_nil = record { goes = λ later. refl }

apart_append : (xs ys : List Event) → Apart xs → Apart ys → Apart (xs ++ ys)
apart_append xs ys first last = record {
  goes = λ later. ap (are_apart false) (append_assoc xs ys later) ∙ first.goes (ys ++ later) ∙ last.goes later;
}

apart_all : {A : Type 0} (f : A → List Event) → ((x : A) → Apart (f x)) → (xs : List A) → Apart (flat_map f xs)
apart_all f each [] = apart_nil
apart_all f each (x ∷ xs) = apart_append (f x) (flat_map f xs) (each x) (apart_all f each xs)

apart_element : (name : List ℕ) (given : List (List ℕ × Option (List ℕ))) (held : List Event) → Apart held → Apart (element name given held)
apart_element name given held inside = record {
  goes = λ later. ap (are_apart false) (append_assoc held (event.End name ∷ []) later) ∙ inside.goes (event.End name ∷ later);
}

apart_text : (name : List ℕ) (given : List (List ℕ × Option (List ℕ))) (text : List ℕ) → Apart (element name given (characters text))
apart_text name given [] = record { goes = λ later. refl }
apart_text name given (byte ∷ text) = record { goes = λ later. refl }

apart_ref : (reference : Ref) → Apart (ref_events reference)
apart_ref reference = by reference.property
  where
    by : (b : Bool) →
        Apart (ref_by b reference)
    by true = apart_text (codes "svrl:property-reference") ((codes "property", Some reference.name) ∷ []) reference.body
    by false = apart_text (codes "svrl:diagnostic-reference") ((codes "diagnostic", Some reference.name) ∷ []) reference.body

apart_item : (item : Item) → Apart (item_events item)
apart_item (a_prefix prefix) =
    apart_element (codes "svrl:ns-prefix-in-attribute-values")
    ((codes "prefix", Some prefix.prefix) ∷ (codes "uri", Some prefix.uri) ∷ []) [] apart_nil
apart_item (a_pattern id) = apart_element (codes "svrl:active-pattern") ((codes "id", id) ∷ []) [] apart_nil
apart_item (a_rule fired) = apart_element (codes "svrl:fired-rule") (rule_attributes fired) [] apart_nil
apart_item (a_finding finding) =
    apart_element (finding_name finding.assertion) (finding_attributes finding) (texts_of finding)
    (apart_append (flat_map ref_events finding.refs) (message_events finding.message) (apart_all ref_events apart_ref finding.refs)
    (apart_text (codes "svrl:text") [] finding.message))

report_apart : (report : SvrlReport) → are_apart false (report_events report) ≡ true
report_apart report =
    ap (are_apart false) (sym (append-nil (report_events report)))
    ∙ (apart_element (codes "svrl:schematron-output") (output_attributes report) (held_of report) (apart_all item_events apart_item (items_of report))).goes []

module _ (splits : QNamesSplit) where
  -- an element of the namespace
  named : (local : List ℕ) (given : List (List ℕ × Option (List ℕ))) (held : List Event) → spells local ≡ true →
      list_all (λ a. spells a.0) given ≡ true → Inside held → Inside (element (codes "svrl" ++ 58 ∷ local) given held)
  unfolding is_xml_char is_name_start is_name_char
  named local given held is are inside =
      inside_element (codes "svrl" ++ 58 ∷ local) given held (prefixed_named splits (codes "svrl") local refl is) (names_fit splits given are) inside

  ref_nests : (reference : Ref) → Inside (ref_events reference)
  unfolding is_xml_char is_name_start is_name_char
  ref_nests reference = by reference.property
    where
      by : (b : Bool) →
          Inside (ref_by b reference)
      by true =
          named (codes "property-reference") ((codes "property", Some reference.name) ∷ []) (characters reference.body) refl refl
          (inside_characters reference.body)
      by false =
          named (codes "diagnostic-reference") ((codes "diagnostic", Some reference.name) ∷ []) (characters reference.body) refl refl
          (inside_characters reference.body)

  texts_nest : (finding : SvrlFinding) → Inside (texts_of finding)
  unfolding is_xml_char is_name_start is_name_char
  texts_nest finding =
      inside_append (flat_map ref_events finding.refs) (message_events finding.message) (inside_all ref_events ref_nests finding.refs)
      (named (codes "text") [] (characters finding.message) refl refl (inside_characters finding.message))

  finding-named : (assertion : Bool) → is_name (finding_name assertion) ≡ true
  unfolding is_xml_char is_name_start is_name_char
  finding-named true = prefixed_named splits (codes "svrl") (codes "failed-assert") refl refl
  finding-named false = prefixed_named splits (codes "svrl") (codes "successful-report") refl refl

  item_nests : (item : Item) → Inside (item_events item)
  unfolding is_xml_char is_name_start is_name_char
  item_nests (a_prefix prefix) =
      named (codes "ns-prefix-in-attribute-values")
      ((codes "prefix", Some prefix.prefix) ∷ (codes "uri", Some prefix.uri) ∷ []) [] refl refl inside_nil
  item_nests (a_pattern id) = named (codes "active-pattern") ((codes "id", id) ∷ []) [] refl refl inside_nil
  item_nests (a_rule fired) = named (codes "fired-rule") (rule_attributes fired) [] refl refl inside_nil
  item_nests (a_finding finding) =
      inside_element (finding_name finding.assertion) (finding_attributes finding) (texts_of finding) (finding-named finding.assertion)
      (names_fit splits (finding_attributes finding) refl) (texts_nest finding)

  abbrev rest_of : SvrlReport → List (List ℕ × Option (List ℕ))
  rest_of report = (codes "title", report.title) ∷ (codes "phase", report.phase) ∷ (codes "schemaVersion", report.schema_version) ∷ []

  pub report_nests : (report : SvrlReport) → list_all is_made (report_events report) ≡ true →
      Nest Document start (report_events report) × IsEnd (place_after Document start (report_events report))
  unfolding is_xml_char is_name_start is_name_char
  report_nests report made =
      document_nests (codes "svrl:schematron-output") (output_attributes report) (held_of report)
      (prefixed_named splits (codes "svrl") (codes "schematron-output") refl refl)
      (and_from (is_name (codes "xmlns:svrl")) (list_all (λ a. is_name a.0) (rest_of report))
      (prefixed_named splits (codes "xmlns") (codes "svrl") refl refl) (names_fit splits (rest_of report) refl))
      (inside_all item_events item_nests (items_of report)) made (report_apart report)
