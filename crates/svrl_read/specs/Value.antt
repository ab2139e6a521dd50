-- What a document says as a report (ISO/IEC 19757-3, annex on SVRL): its elements by namespace and local name. Other elements,
-- other attributes and text elsewhere say nothing. A missing attribute reads as the empty text.
use Rattle.std.specs.Prelude.{ℕ, Bool, true, false, List, [], ◌∷◌, Option, None, Some, codes, find}
use Rattle.std.specs.List.{flat_map}
use Rattle.doc_tree.specs.Table.{Table, kids_of}
use Rattle.doc_tree.specs.Walks.{string_value_of}
use Rattle.svrl_read.specs.declared.value.Fired.{Fired}
use Rattle.svrl_read.specs.declared.value.Prefix.{Prefix}
use Rattle.svrl_read.specs.declared.value.Ref.{Ref}
use Rattle.svrl_read.specs.declared.value.SvrlFinding.{SvrlFinding}
use Rattle.svrl_read.specs.declared.value.SvrlPattern.{SvrlPattern}
use Rattle.svrl_read.specs.declared.value.SvrlReport.{SvrlReport}
use Rattle.svrl_read.specs.declared.words.Word.{Word}
use Rattle.svrl_read.specs.declared.words.Word.TheVariants as word
use Rattle.svrl_read.specs.Places.{document_element, said, said_text, word_at}
use Rattle.svrl_read.specs.Words.{is_text}

abbrev pub prefix_of : Table → ℕ → Prefix
prefix_of T n = record { prefix = said_text T n (codes "prefix"); uri = said_text T n (codes "uri") }

abbrev pub prefixes_as : Table → ℕ → Option Word → List Prefix
prefixes_as T n (Some word.Prefix) = prefix_of T n ∷ []
prefixes_as T n _ = []

-- the prefix that an element is
abbrev pub prefix_at : Table → ℕ → List Prefix
prefix_at T n = prefixes_as T n (word_at T n)

-- a reference to what an attribute names; its body is the string-value
abbrev pub ref_of : Table → Bool → List ℕ → ℕ → Ref
ref_of T property attribute n = record { property = property; name = said_text T n attribute; body = string_value_of T n }

abbrev pub refs_as : Table → ℕ → Option Word → List Ref
refs_as T n (Some word.Diagnostic) = ref_of T false (codes "diagnostic") n ∷ []
refs_as T n (Some word.Property) = ref_of T true (codes "property") n ∷ []
refs_as T n _ = []

-- the reference that an element is
abbrev pub ref_at : Table → ℕ → List Ref
ref_at T n = refs_as T n (word_at T n)

-- a message: the string-value of the element's first `text`, or empty
abbrev pub message_in : Table → Option ℕ → List ℕ
message_in T None = []
message_in T (Some text) = string_value_of T text

abbrev pub message_of : Table → ℕ → List ℕ
message_of T n = message_in T (find (λ k. is_text (word_at T k)) (kids_of T n))

abbrev pub finding_of : Table → Bool → ℕ → SvrlFinding
finding_of T assertion n = record {
  assertion = assertion;
  id = said T n (codes "id");
  location = said_text T n (codes "location");
  role = said T n (codes "role");
  flag = said T n (codes "flag");
  test = said_text T n (codes "test");
  refs = flat_map (ref_at T) (kids_of T n);
  message = message_of T n;
}

-- the findings that an element and those behind it are, before the next fired rule or active pattern
abbrev pub findings_as : Table → ℕ → Option Word → List SvrlFinding → List SvrlFinding
findings_as T n (Some word.Assert) behind = finding_of T true n ∷ behind
findings_as T n (Some word.Report) behind = finding_of T false n ∷ behind
findings_as T n (Some word.Rule) behind = []
findings_as T n (Some word.Pattern) behind = []
findings_as T n _ behind = behind

abbrev pub findings_before : Table → List ℕ → List SvrlFinding
findings_before T [] = []
findings_before T (n ∷ kids) = findings_as T n (word_at T n) (findings_before T kids)

-- a rule that fired, and its findings
abbrev pub rule_of : Table → ℕ → List SvrlFinding → Fired
rule_of T n findings = record {
  id = said T n (codes "id");
  context = said_text T n (codes "context");
  role = said T n (codes "role");
  flag = said T n (codes "flag");
  findings = findings;
}

-- the fired rules that an element and those behind it are, before the next active pattern; each has the findings behind it
abbrev pub rules_as : Table → ℕ → Option Word → List SvrlFinding → List Fired → List Fired
rules_as T n (Some word.Rule) findings behind = rule_of T n findings ∷ behind
rules_as T n (Some word.Pattern) findings behind = []
rules_as T n _ findings behind = behind

abbrev pub rules_before : Table → List ℕ → List Fired
rules_before T [] = []
rules_before T (n ∷ kids) = rules_as T n (word_at T n) (findings_before T kids) (rules_before T kids)

-- an active pattern, and its fired rules
abbrev pub pattern_of : Table → ℕ → List Fired → SvrlPattern
pattern_of T n fired = record { id = said T n (codes "id"); fired = fired }

-- the active patterns that an element and those behind it are; each has the fired rules behind it
abbrev pub patterns_as : Table → ℕ → Option Word → List Fired → List SvrlPattern → List SvrlPattern
patterns_as T n (Some word.Pattern) fired behind = pattern_of T n fired ∷ behind
patterns_as T n _ fired behind = behind

abbrev pub patterns_in : Table → List ℕ → List SvrlPattern
patterns_in T [] = []
patterns_in T (n ∷ kids) = patterns_as T n (word_at T n) (rules_before T kids) (patterns_in T kids)

-- the report that an element says
abbrev pub output_of : Table → ℕ → SvrlReport
output_of T n = record {
  title = said T n (codes "title");
  phase = said T n (codes "phase");
  schema_version = said T n (codes "schemaVersion");
  prefixes = flat_map (prefix_at T) (kids_of T n);
  patterns = patterns_in T (kids_of T n);
}

-- the report that a document says
abbrev pub report_of : Table → SvrlReport
report_of T = output_of T (document_element T)
