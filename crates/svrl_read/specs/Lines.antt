-- The lines of a report: SVRL in lines of PYX (ISO/IEC 19757-3, annex on SVRL), with elements and attributes in one fixed
-- order, attributes only where given, and no text but that of references and messages.
use Rattle.std.specs.Prelude.{ℕ, Bool, List, [], ◌∷◌, ◌++◌, codes, Option, Some, if◌then◌else◌}
use Rattle.std.specs.List.{flat_map}
use Rattle.pyx_write.specs.Written.{chars_line}
use Rattle.svrl_read.specs.declared.value.Fired.{Fired}
use Rattle.svrl_read.specs.declared.value.Prefix.{Prefix}
use Rattle.svrl_read.specs.declared.value.Ref.{Ref}
use Rattle.svrl_read.specs.declared.value.SvrlFinding.{SvrlFinding}
use Rattle.svrl_read.specs.declared.value.SvrlPattern.{SvrlPattern}
use Rattle.svrl_read.specs.declared.value.SvrlReport.{SvrlReport}
use Rattle.pyx_write.specs.Elements.{element}

abbrev pub prefix_lines : Prefix → List ℕ
prefix_lines prefix = element (codes "svrl:ns-prefix-in-attribute-values")
    ((codes "prefix", Some prefix.prefix) ∷ (codes "uri", Some prefix.uri) ∷ []) []

-- a reference by the names of its element and its attribute
abbrev pub ref_as : List ℕ → List ℕ → Ref → List ℕ
ref_as name attribute reference = element name ((attribute, Some reference.name) ∷ []) (chars_line reference.body)

abbrev pub ref_lines : Ref → List ℕ
ref_lines reference = if reference.property
    then ref_as (codes "svrl:property-reference") (codes "property") reference
    else ref_as (codes "svrl:diagnostic-reference") (codes "diagnostic") reference

abbrev pub message_lines : List ℕ → List ℕ
message_lines message = element (codes "svrl:text") [] (chars_line message)

-- what a finding is named
abbrev pub finding_name : Bool → List ℕ
finding_name assertion = if assertion then codes "svrl:failed-assert" else codes "svrl:successful-report"

abbrev pub finding_attributes : SvrlFinding → List (List ℕ × Option (List ℕ))
finding_attributes finding =
    (codes "id", finding.id)
    ∷ (codes "location", Some finding.location)
    ∷ (codes "role", finding.role)
    ∷ (codes "flag", finding.flag)
    ∷ (codes "test", Some finding.test) ∷ []

-- a finding: its references in order, then its message
abbrev pub finding_lines : SvrlFinding → List ℕ
finding_lines finding = element (finding_name finding.assertion) (finding_attributes finding)
    (flat_map ref_lines finding.refs ++ message_lines finding.message)

abbrev pub rule_attributes : Fired → List (List ℕ × Option (List ℕ))
rule_attributes fired =
    (codes "id", fired.id)
    ∷ (codes "context", Some fired.context)
    ∷ (codes "role", fired.role)
    ∷ (codes "flag", fired.flag) ∷ []

-- a fired rule, then its findings
abbrev pub fired_lines : Fired → List ℕ
fired_lines fired = element (codes "svrl:fired-rule") (rule_attributes fired) [] ++ flat_map finding_lines fired.findings

-- an active pattern, then its fired rules
abbrev pub pattern_lines : SvrlPattern → List ℕ
pattern_lines pattern = element (codes "svrl:active-pattern") ((codes "id", pattern.id) ∷ []) [] ++ flat_map fired_lines pattern.fired

abbrev pub output_attributes : SvrlReport → List (List ℕ × Option (List ℕ))
output_attributes report =
    (codes "xmlns:svrl", Some (codes "http://purl.oclc.org/dsdl/svrl"))
    ∷ (codes "title", report.title)
    ∷ (codes "phase", report.phase)
    ∷ (codes "schemaVersion", report.schema_version) ∷ []

-- a report: its prefixes, then its patterns
abbrev pub report_lines : SvrlReport → List ℕ
report_lines report = element (codes "svrl:schematron-output") (output_attributes report)
    (flat_map prefix_lines report.prefixes ++ flat_map pattern_lines report.patterns)
