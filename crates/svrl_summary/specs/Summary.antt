-- What is counted of a report.
use Rattle.std.specs.Prelude.{ℕ, not, List, [], ◌∷◌, Option, None, Some, filter, length, map, sum_by}
use Rattle.std.specs.List.{flat_map}
use Rattle.svrl_read.specs.declared.value.Fired.{Fired}
use Rattle.svrl_read.specs.declared.value.SvrlFinding.{SvrlFinding}
use Rattle.svrl_read.specs.declared.value.SvrlPattern.{SvrlPattern}
use Rattle.svrl_read.specs.declared.value.SvrlReport.{SvrlReport}
use Rattle.svrl_summary.specs.declared.label.Label.{Label}
use Rattle.svrl_summary.specs.declared.label.Label.TheVariants.{Role, Flag}
use Rattle.svrl_summary.specs.declared.summary.LabelCount.{LabelCount}
use Rattle.svrl_summary.specs.declared.summary.PatternCount.{PatternCount}
use Rattle.svrl_summary.specs.declared.summary.Summary.{Summary}
use Rattle.svrl_summary.specs.declared.tally.Tally.{Tally}
use Rattle.svrl_summary.specs.Labels.{counted}

-- a fired rule, and the failed asserts and successful reports among its findings
abbrev pub tally_of_rule : Fired → Tally
tally_of_rule fired = record {
  fired = 1;
  asserts = length (filter (λ finding. finding.assertion) fired.findings);
  reports = length (filter (λ finding. not finding.assertion) fired.findings);
}

-- what is counted of several things
abbrev pub sum_of : {A : Type 0} → (A → Tally) → List A → Tally
sum_of tally items = record {
  fired = sum_by (λ item. (tally item).fired) items;
  asserts = sum_by (λ item. (tally item).asserts) items;
  reports = sum_by (λ item. (tally item).reports) items;
}

-- a pattern: its rules that fired
abbrev pub tally_of : SvrlPattern → Tally
tally_of pattern = sum_of tally_of_rule pattern.fired

abbrev pub count_of : SvrlPattern → PatternCount
count_of pattern = record { id = pattern.id; tally = tally_of pattern }

-- a label of a finding, where it has one
abbrev pub label_of : Label → SvrlFinding → Option (List ℕ)
label_of Role finding = finding.role
label_of Flag finding = finding.flag

abbrev pub of_option : Option (List ℕ) → List (List ℕ)
of_option None = []
of_option (Some text) = text ∷ []

-- the labels of findings, in the order of the report; those of fired rules are not among them
abbrev pub labels_of_rule : Label → Fired → List (List ℕ)
labels_of_rule label fired = flat_map (λ finding. of_option (label_of label finding)) fired.findings

abbrev pub labels_of_pattern : Label → SvrlPattern → List (List ℕ)
labels_of_pattern label pattern = flat_map (labels_of_rule label) pattern.fired

abbrev pub labels_of : Label → SvrlReport → List (List ℕ)
labels_of label report = flat_map (labels_of_pattern label) report.patterns

-- labels, each with its count
abbrev pub as_counts : List (List ℕ × ℕ) → List LabelCount
as_counts counts = map (λ entry. record { label = entry.0; count = entry.1 }) counts

-- what is counted of a report: all of it, each pattern, and the roles and the flags of its findings
abbrev pub summary_of : SvrlReport → Summary
summary_of report = record {
  whole = sum_of tally_of report.patterns;
  patterns = map count_of report.patterns;
  roles = as_counts (counted (labels_of Role report));
  flags = as_counts (counted (labels_of Flag report));
}
