-- The lines of a report are those of its events.
use Rattle.std.proofs.Common.{◌≡◌, ℕ, Bool, true, false, cond, List, [], ◌∷◌, ◌++◌, map, Option, None, Some, refl, sym, ap, ◌∙◌, append-nil, append_assoc}
use Rattle.std.specs.List.{flat_map}
use Rattle.std.specs.Prelude.{codes}
use Rattle.std.proofs.lemmas.Grind.{flat_map-append}
use Rattle.std.proofs.lemmas.List.Folds.{flat_map-map}
use Rattle.pyx_core.specs.declared.event.Event.{Event}
use Rattle.pyx_core.specs.declared.event.Event.TheVariants as event
use Rattle.pyx_core.specs.Written.{attr_line, attr_lines, chars_line, end_line, event_lines, start_line, text_of}
use Rattle.sch_flat.specs.FlatDocument.{characters, element as event_element, only_given}
use Rattle.svrl_read.specs.declared.value.Fired.{Fired}
use Rattle.svrl_read.specs.declared.value.Prefix.{Prefix}
use Rattle.svrl_read.specs.declared.value.Ref.{Ref}
use Rattle.svrl_read.specs.declared.value.SvrlFinding.{SvrlFinding}
use Rattle.svrl_read.specs.declared.value.SvrlPattern.{SvrlPattern}
use Rattle.svrl_read.specs.declared.value.SvrlReport.{SvrlReport}
use Rattle.pyx_write.specs.Elements.{attributes, element}
use Rattle.svrl_read.specs.Lines.{finding_attributes, finding_lines, finding_name, fired_lines, message_lines, output_attributes, pattern_lines, prefix_lines, ref_as as ref_lines_as, ref_lines, report_lines, rule_attributes}
use Rattle.svrl_laws.specs.ReportEvents.{a_prefix, a_pattern, a_rule, a_finding, held_of, item_events, message_events, pattern_items, ref_as, ref_by, ref_events, report_events, rule_items, texts_of}

pub text_append : (xs ys : List Event) → text_of (xs ++ ys) ≡ text_of xs ++ text_of ys
text_append [] ys = refl
text_append (x ∷ xs) ys =
    ap (λ (l : List ℕ). event_lines x ++ l) (text_append xs ys) ∙ sym (append_assoc (event_lines x) (text_of xs) (text_of ys))

attributes_are : (given : List (List ℕ × Option (List ℕ))) → attributes given ≡ attr_lines (only_given given)
attributes_are [] = refl
attributes_are ((name, None) ∷ given) = attributes_are given
attributes_are ((name, Some value) ∷ given) = ap (λ (l : List ℕ). attr_line name value ++ l) (attributes_are given)

element_is : (name : List ℕ) (given : List (List ℕ × Option (List ℕ))) (held : List Event) (lines : List ℕ) → lines ≡ text_of held →
    element name given lines ≡ text_of (event_element name given held)
element_is name given held lines same =
    ap (λ (l : List ℕ). (start_line name ++ l) ++ (lines ++ end_line name)) (attributes_are given)
    ∙ ap (λ (l : List ℕ). (start_line name ++ attr_lines (only_given given)) ++ (l ++ end_line name)) same
    ∙ ap (λ (l : List ℕ). (start_line name ++ attr_lines (only_given given)) ++ l)
    (ap (λ (l : List ℕ). text_of held ++ l) (sym (append-nil (end_line name))) ∙ sym (text_append held (event.End name ∷ [])))

characters_are : (text : List ℕ) → chars_line text ≡ text_of (characters text)
unfolding chars_line
characters_are [] = refl
characters_are (byte ∷ text) = sym (append-nil (chars_line (byte ∷ text)))

all_are : {A : Type 0} (f : A → List ℕ) (g : A → List Event) → ((x : A) → f x ≡ text_of (g x)) → (xs : List A) →
    flat_map f xs ≡ text_of (flat_map g xs)
all_are f g each [] = refl
all_are f g each (x ∷ xs) =
    ap (λ (l : List ℕ). l ++ flat_map f xs) (each x)
    ∙ ap (λ (l : List ℕ). text_of (g x) ++ l) (all_are f g each xs)
    ∙ sym (text_append (g x) (flat_map g xs))

both_are : (front back : List ℕ) (xs ys : List Event) → front ≡ text_of xs → back ≡ text_of ys → front ++ back ≡ text_of (xs ++ ys)
both_are front back xs ys first last =
    ap (λ (l : List ℕ). l ++ back) first ∙ ap (λ (l : List ℕ). text_of xs ++ l) last ∙ sym (text_append xs ys)

prefix_is : (prefix : Prefix) → prefix_lines prefix ≡ text_of (item_events (a_prefix prefix))
prefix_is prefix =
    element_is (codes "svrl:ns-prefix-in-attribute-values") ((codes "prefix", Some prefix.prefix) ∷ (codes "uri", Some prefix.uri) ∷ []) [] [] refl

ref_is_as : (name attribute : List ℕ) (reference : Ref) → ref_lines_as name attribute reference ≡ text_of (ref_as name attribute reference)
ref_is_as name attribute reference =
    element_is name ((attribute, Some reference.name) ∷ []) (characters reference.body) (chars_line reference.body) (characters_are reference.body)

ref_is : (reference : Ref) → ref_lines reference ≡ text_of (ref_events reference)
ref_is reference = by reference.property
  where
    by : (b : Bool) →
        cond b (ref_lines_as (codes "svrl:property-reference") (codes "property") reference)
        (ref_lines_as (codes "svrl:diagnostic-reference") (codes "diagnostic") reference)
        ≡ text_of (ref_by b reference)
    by true = ref_is_as (codes "svrl:property-reference") (codes "property") reference
    by false = ref_is_as (codes "svrl:diagnostic-reference") (codes "diagnostic") reference

message_is : (message : List ℕ) → message_lines message ≡ text_of (message_events message)
message_is message = element_is (codes "svrl:text") [] (characters message) (chars_line message) (characters_are message)

finding_is : (finding : SvrlFinding) → finding_lines finding ≡ text_of (item_events (a_finding finding))
finding_is finding =
    element_is (finding_name finding.assertion) (finding_attributes finding) (texts_of finding)
    (flat_map ref_lines finding.refs ++ message_lines finding.message)
    (both_are (flat_map ref_lines finding.refs) (message_lines finding.message) (flat_map ref_events finding.refs) (message_events finding.message)
    (all_are ref_lines ref_events ref_is finding.refs) (message_is finding.message))

-- the items of parts, one after another
pub of_flat : {A B C : Type 0} (g : B → List C) (f : A → List B) (xs : List A) → flat_map g (flat_map f xs) ≡ flat_map (λ x. flat_map g (f x)) xs
of_flat g f [] = refl
of_flat g f (x ∷ xs) = flat_map-append g (f x) (flat_map f xs) ∙ ap (λ l. flat_map g (f x) ++ l) (of_flat g f xs)

rule_is : (fired : Fired) → fired_lines fired ≡ text_of (flat_map item_events (rule_items fired))
rule_is fired =
    both_are (element (codes "svrl:fired-rule") (rule_attributes fired) []) (flat_map finding_lines fired.findings)
    (item_events (a_rule fired)) (flat_map item_events (map (λ finding. a_finding finding) fired.findings))
    (element_is (codes "svrl:fired-rule") (rule_attributes fired) [] [] refl)
    (all_are finding_lines (λ finding. item_events (a_finding finding)) finding_is fired.findings
    ∙ ap text_of (sym (flat_map-map item_events (λ finding. a_finding finding) fired.findings)))

pattern_is : (pattern : SvrlPattern) → pattern_lines pattern ≡ text_of (flat_map item_events (pattern_items pattern))
pattern_is pattern =
    both_are (element (codes "svrl:active-pattern") ((codes "id", pattern.id) ∷ []) []) (flat_map fired_lines pattern.fired)
    (item_events (a_pattern pattern.id)) (flat_map item_events (flat_map rule_items pattern.fired))
    (element_is (codes "svrl:active-pattern") ((codes "id", pattern.id) ∷ []) [] [] refl)
    (all_are fired_lines (λ fired. flat_map item_events (rule_items fired)) rule_is pattern.fired
    ∙ ap text_of (sym (of_flat item_events rule_items pattern.fired)))

held_is : (report : SvrlReport) → flat_map prefix_lines report.prefixes ++ flat_map pattern_lines report.patterns ≡ text_of (held_of report)
held_is report =
    both_are (flat_map prefix_lines report.prefixes) (flat_map pattern_lines report.patterns)
    (flat_map item_events (map (λ prefix. a_prefix prefix) report.prefixes)) (flat_map item_events (flat_map pattern_items report.patterns))
    (all_are prefix_lines (λ prefix. item_events (a_prefix prefix)) prefix_is report.prefixes
    ∙ ap text_of (sym (flat_map-map item_events (λ prefix. a_prefix prefix) report.prefixes)))
    (all_are pattern_lines (λ pattern. flat_map item_events (pattern_items pattern)) pattern_is report.patterns
    ∙ ap text_of (sym (of_flat item_events pattern_items report.patterns)))
    ∙ ap text_of (sym (flat_map-append item_events (map (λ prefix. a_prefix prefix) report.prefixes) (flat_map pattern_items report.patterns)))

pub lines_are : (report : SvrlReport) → report_lines report ≡ text_of (report_events report)
lines_are report =
    element_is (codes "svrl:schematron-output") (output_attributes report) (held_of report)
    (flat_map prefix_lines report.prefixes ++ flat_map pattern_lines report.patterns) (held_is report)
