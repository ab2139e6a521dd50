-- The document of a report, as the events of its lines: the elements that the output holds stand side by side.
use Rattle.std.specs.Prelude.{ℕ, Bool, List, [], ◌∷◌, ◌++◌, Option, Some, codes, map, if◌then◌else◌}
use Rattle.std.specs.List.{flat_map}
use Rattle.pyx_core.specs.declared.event.Event.{Event}
use Rattle.sch_flat.specs.FlatDocument.{characters, element}
use Rattle.svrl_read.specs.declared.value.Fired.{Fired}
use Rattle.svrl_read.specs.declared.value.Prefix.{Prefix}
use Rattle.svrl_read.specs.declared.value.Ref.{Ref}
use Rattle.svrl_read.specs.declared.value.SvrlFinding.{SvrlFinding}
use Rattle.svrl_read.specs.declared.value.SvrlPattern.{SvrlPattern}
use Rattle.svrl_read.specs.declared.value.SvrlReport.{SvrlReport}
use Rattle.svrl_read.specs.Lines.{finding_attributes, finding_name, output_attributes, rule_attributes}

-- what an output holds: prefixes, patterns by their ids, rules, findings
pub data Item : Type 0 where
  a_prefix : Prefix → Item
  a_pattern : Option (List ℕ) → Item
  a_rule : Fired → Item
  a_finding : SvrlFinding → Item

abbrev pub rule_items : Fired → List Item
rule_items fired = a_rule fired ∷ map (λ finding. a_finding finding) fired.findings

abbrev pub pattern_items : SvrlPattern → List Item
pattern_items pattern = a_pattern pattern.id ∷ flat_map rule_items pattern.fired

abbrev pub items_of : SvrlReport → List Item
items_of report = map (λ prefix. a_prefix prefix) report.prefixes ++ flat_map pattern_items report.patterns

abbrev pub ref_as : List ℕ → List ℕ → Ref → List Event
ref_as name attribute reference = element name ((attribute, Some reference.name) ∷ []) (characters reference.body)

-- a property, or a diagnostic
abbrev pub ref_by : Bool → Ref → List Event
ref_by property reference = if property
    then ref_as (codes "svrl:property-reference") (codes "property") reference
    else ref_as (codes "svrl:diagnostic-reference") (codes "diagnostic") reference

abbrev pub ref_events : Ref → List Event
ref_events reference = ref_by reference.property reference

abbrev pub message_events : List ℕ → List Event
message_events message = element (codes "svrl:text") [] (characters message)

abbrev pub texts_of : SvrlFinding → List Event
texts_of finding = flat_map ref_events finding.refs ++ message_events finding.message

abbrev pub item_events : Item → List Event
item_events (a_prefix prefix) = element (codes "svrl:ns-prefix-in-attribute-values")
    ((codes "prefix", Some prefix.prefix) ∷ (codes "uri", Some prefix.uri) ∷ []) []
item_events (a_pattern id) = element (codes "svrl:active-pattern") ((codes "id", id) ∷ []) []
item_events (a_rule fired) = element (codes "svrl:fired-rule") (rule_attributes fired) []
item_events (a_finding finding) = element (finding_name finding.assertion) (finding_attributes finding) (texts_of finding)

abbrev pub held_of : SvrlReport → List Event
held_of report = flat_map item_events (items_of report)

abbrev pub report_events : SvrlReport → List Event
report_events report = element (codes "svrl:schematron-output") (output_attributes report) (held_of report)
