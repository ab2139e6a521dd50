-- A report that is being read, from the left.
use Rattle.std.specs.Prelude.{◌≡◌, ℕ, true, false, List, [], ◌∷◌, ◌++◌, Option, None, Some, option_map, option_to_list}
use Rattle.std.specs.List.{flat_map}
use Rattle.doc_tree.specs.Table.{Table}
use Rattle.svrl_read.specs.declared.building.Builder.{Builder}
use Rattle.svrl_read.specs.declared.check.Place.{Place}
use Rattle.svrl_read.specs.declared.check.Place.TheVariants.{Outside, InPattern, InRule}
use Rattle.svrl_read.specs.declared.value.Fired.{Fired}
use Rattle.svrl_read.specs.declared.value.Prefix.{Prefix}
use Rattle.svrl_read.specs.declared.value.SvrlFinding.{SvrlFinding}
use Rattle.svrl_read.specs.declared.value.SvrlPattern.{SvrlPattern}
use Rattle.svrl_read.specs.declared.value.SvrlReport.{SvrlReport}
use Rattle.svrl_read.specs.declared.words.Word.{Word}
use Rattle.svrl_read.specs.declared.words.Word.TheVariants as word
use Rattle.svrl_read.specs.FirstFault.{kids_fault}
use Rattle.svrl_read.specs.Value.{finding_of, findings_before, pattern_of, patterns_in, prefix_at, prefix_of, rule_of, rules_before}

-- where the next element stands, in a pattern and in general
abbrev pub place_in_pattern : Option Fired → Place
place_in_pattern None = InPattern
place_in_pattern (Some fired) = InRule

abbrev pub place_of : Option SvrlPattern → Option Fired → Place
place_of None fired = Outside
place_of (Some pattern) fired = place_in_pattern fired

abbrev pub with_finding : SvrlFinding → Fired → Fired
with_finding finding fired = record fired { findings = fired.findings ++ finding ∷ [] }

abbrev pub with_rule : Fired → SvrlPattern → SvrlPattern
with_rule fired pattern = record pattern { fired = pattern.fired ++ fired ∷ [] }

-- the open pattern with the open rule in it
abbrev pub closed : Option SvrlPattern → Option Fired → Option SvrlPattern
closed pattern None = pattern
closed pattern (Some fired) = option_map (with_rule fired) pattern

-- the report with a prefix, or a pattern if there is one
abbrev pub with_prefix : Prefix → SvrlReport → SvrlReport
with_prefix prefix report = record report { prefixes = report.prefixes ++ prefix ∷ [] }

abbrev pub with_pattern : Option SvrlPattern → SvrlReport → SvrlReport
with_pattern pattern report = record report { patterns = report.patterns ++ option_to_list pattern }

-- what was read when one element more is read
abbrev pub after : Table → Builder → ℕ → Option Word → Builder
after T b n (Some word.Prefix) = record b { report = with_prefix (prefix_of T n) b.report }
after T b n (Some word.Pattern) = record { report = with_pattern (closed b.pattern b.fired) b.report; pattern = Some (pattern_of T n []); fired = None }
after T b n (Some word.Rule) = record b { pattern = closed b.pattern b.fired; fired = Some (rule_of T n []) }
after T b n (Some word.Assert) = record b { fired = option_map (with_finding (finding_of T true n)) b.fired }
after T b n (Some word.Report) = record b { fired = option_map (with_finding (finding_of T false n)) b.fired }
after T b n _ = b

-- the open rule with the findings that follow, and then the rules that follow
abbrev pub rules_with : Option Fired → List SvrlFinding → List Fired → List Fired
rules_with None findings rules = rules
rules_with (Some fired) findings rules = record fired { findings = fired.findings ++ findings } ∷ rules

-- the open pattern with the findings and rules that follow
abbrev pub pattern_with : Option SvrlPattern → Option Fired → List SvrlFinding → List Fired → List SvrlPattern
pattern_with None fired findings rules = []
pattern_with (Some pattern) fired findings rules = record pattern { fired = pattern.fired ++ rules_with fired findings rules } ∷ []

-- the report where these parts follow
abbrev pub report_with : Builder → List Prefix → List SvrlFinding → List Fired → List SvrlPattern → SvrlReport
report_with b prefixes findings rules patterns = record b.report {
  prefixes = b.report.prefixes ++ prefixes;
  patterns = b.report.patterns ++ (pattern_with b.pattern b.fired findings rules ++ patterns);
}

-- the report where these elements follow
abbrev pub report_then : Table → Builder → List ℕ → SvrlReport
report_then T b kids = report_with b (flat_map (prefix_at T) kids) (findings_before T kids) (rules_before T kids) (patterns_in T kids)

-- the first of some elements were read, and these are left: none of them has a fault, and they say what was read
pub record HasRead (T : Table) (first b : Builder) (kids left : List ℕ) : Type 0 where
  pub no_fault : kids_fault T (place_of first.pattern first.fired) kids ≡ kids_fault T (place_of b.pattern b.fired) left
  pub read : report_then T first kids ≡ report_then T b left
