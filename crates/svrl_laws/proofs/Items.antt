-- What elements side by side say as a report, by what they are.
use Rattle.std.proofs.Common.{◌≡◌, List, [], ◌∷◌, ◌++◌, map, refl, ap, ◌∙◌, append-nil, append_assoc}
use Rattle.std.specs.List.{flat_map}
use Rattle.svrl_read.specs.declared.check.Place.{Place}
use Rattle.svrl_read.specs.declared.check.Place.TheVariants.{Outside, InPattern, InRule}
use Rattle.svrl_read.specs.declared.value.Fired.{Fired}
use Rattle.svrl_read.specs.declared.value.Prefix.{Prefix}
use Rattle.svrl_read.specs.declared.value.SvrlFinding.{SvrlFinding}
use Rattle.svrl_read.specs.declared.value.SvrlPattern.{SvrlPattern}
use Rattle.svrl_read.specs.declared.value.SvrlReport.{SvrlReport}
use Rattle.svrl_laws.specs.ReportEvents.{Item, a_prefix, a_pattern, a_rule, a_finding, items_of, pattern_items, rule_items}

-- the prefixes among items
abbrev pub prefixes : List Item → List Prefix
prefixes [] = []
prefixes (a_prefix prefix ∷ items) = prefix ∷ prefixes items
prefixes (a_pattern id ∷ items) = prefixes items
prefixes (a_rule fired ∷ items) = prefixes items
prefixes (a_finding finding ∷ items) = prefixes items

-- the findings before the next rule or pattern
abbrev pub findings : List Item → List SvrlFinding
findings [] = []
findings (a_prefix prefix ∷ items) = findings items
findings (a_pattern id ∷ items) = []
findings (a_rule fired ∷ items) = []
findings (a_finding finding ∷ items) = finding ∷ findings items

-- the rules before the next pattern
abbrev pub rules : List Item → List Fired
rules [] = []
rules (a_prefix prefix ∷ items) = rules items
rules (a_pattern id ∷ items) = []
rules (a_rule fired ∷ items) = record fired { findings = findings items } ∷ rules items
rules (a_finding finding ∷ items) = rules items

abbrev pub patterns : List Item → List SvrlPattern
patterns [] = []
patterns (a_prefix prefix ∷ items) = patterns items
patterns (a_pattern id ∷ items) = record { id = id; fired = rules items } ∷ patterns items
patterns (a_rule fired ∷ items) = patterns items
patterns (a_finding finding ∷ items) = patterns items

-- each item stands where it may
abbrev pub Stand : Place → List Item → Type 0
Stand place [] = Unit {0}
Stand place (a_prefix prefix ∷ items) = Stand place items
Stand place (a_pattern id ∷ items) = Stand InPattern items
Stand Outside (a_rule fired ∷ items) = ⊥
Stand InPattern (a_rule fired ∷ items) = Stand InRule items
Stand InRule (a_rule fired ∷ items) = Stand InRule items
Stand Outside (a_finding finding ∷ items) = ⊥
Stand InPattern (a_finding finding ∷ items) = ⊥
Stand InRule (a_finding finding ∷ items) = Stand InRule items

-- findings and then other items
abbrev of_findings : List SvrlFinding → List Item
of_findings all = map (λ finding. a_finding finding) all

findings_first : (all : List SvrlFinding) (items : List Item) → findings (of_findings all ++ items) ≡ all ++ findings items
findings_first [] items = refl
findings_first (finding ∷ all) items = ap (λ (l : List SvrlFinding). finding ∷ l) (findings_first all items)

rules_behind : (all : List SvrlFinding) (items : List Item) → rules (of_findings all ++ items) ≡ rules items
rules_behind [] items = refl
rules_behind (finding ∷ all) items = rules_behind all items

patterns_behind : (all : List SvrlFinding) (items : List Item) → patterns (of_findings all ++ items) ≡ patterns items
patterns_behind [] items = refl
patterns_behind (finding ∷ all) items = patterns_behind all items

prefixes_behind : (all : List SvrlFinding) (items : List Item) → prefixes (of_findings all ++ items) ≡ prefixes items
prefixes_behind [] items = refl
prefixes_behind (finding ∷ all) items = prefixes_behind all items

stand_behind : (all : List SvrlFinding) (items : List Item) → Stand InRule items → Stand InRule (of_findings all ++ items)
stand_behind [] items h = h
stand_behind (finding ∷ all) items h = stand_behind all items h

-- the items of patterns, and of rules before them
abbrev of_patterns : List SvrlPattern → List Item
of_patterns all = flat_map pattern_items all

abbrev of_rules : List Fired → List SvrlPattern → List Item
of_rules fired all = flat_map rule_items fired ++ of_patterns all

-- the items of one rule more
rule_more : (first : Fired) (fired : List Fired) (all : List SvrlPattern) →
    of_rules (first ∷ fired) all ≡ a_rule first ∷ (of_findings first.findings ++ of_rules fired all)
rule_more first fired all =
    ap (λ (l : List Item). a_rule first ∷ l) (append_assoc (of_findings first.findings) (flat_map rule_items fired) (of_patterns all))

no_findings : (fired : List Fired) (all : List SvrlPattern) → findings (of_rules fired all) ≡ []
no_findings [] [] = refl
no_findings [] (pattern ∷ all) = refl
no_findings (first ∷ fired) all = refl

no_rules : (all : List SvrlPattern) → rules (of_patterns all) ≡ []
no_rules [] = refl
no_rules (pattern ∷ all) = refl

rules_first : (fired : List Fired) (all : List SvrlPattern) → rules (of_rules fired all) ≡ fired
rules_first [] all = no_rules all
rules_first (first ∷ fired) all =
    let rest = of_rules fired all in
    ap rules (rule_more first fired all)
    ∙ ap (λ (l : List SvrlFinding). record first { findings = l } ∷ rules (of_findings first.findings ++ rest))
    (findings_first first.findings rest ∙ ap (λ (l : List SvrlFinding). first.findings ++ l) (no_findings fired all) ∙ append-nil first.findings)
    ∙ ap (λ (l : List Fired). first ∷ l) (rules_behind first.findings rest ∙ rules_first fired all)

patterns_after : (fired : List Fired) (all : List SvrlPattern) → patterns (of_rules fired all) ≡ patterns (of_patterns all)
patterns_after [] all = refl
patterns_after (first ∷ fired) all =
    ap patterns (rule_more first fired all) ∙ patterns_behind first.findings (of_rules fired all) ∙ patterns_after fired all

prefixes_after : (fired : List Fired) (all : List SvrlPattern) → prefixes (of_rules fired all) ≡ prefixes (of_patterns all)
prefixes_after [] all = refl
prefixes_after (first ∷ fired) all =
    ap prefixes (rule_more first fired all) ∙ prefixes_behind first.findings (of_rules fired all) ∙ prefixes_after fired all

patterns_are : (all : List SvrlPattern) → patterns (of_patterns all) ≡ all
patterns_are [] = refl
patterns_are (pattern ∷ all) =
    ap (λ (l : List Fired). record pattern { fired = l } ∷ patterns (of_rules pattern.fired all)) (rules_first pattern.fired all)
    ∙ ap (λ (l : List SvrlPattern). pattern ∷ l) (patterns_after pattern.fired all ∙ patterns_are all)

no_prefixes : (all : List SvrlPattern) → prefixes (of_patterns all) ≡ []
no_prefixes [] = refl
no_prefixes (pattern ∷ all) = prefixes_after pattern.fired all ∙ no_prefixes all

stand_rules : (fired : List Fired) (all : List SvrlPattern) → ((place : Place) → Stand place (of_patterns all)) → Stand InRule (of_rules fired all)
stand_rules [] all h = h InRule
stand_rules (first ∷ fired) all h =
    rw (rule_more first fired all) (stand_behind first.findings (of_rules fired all) (stand_rules fired all h))

stand_pattern : (fired : List Fired) (all : List SvrlPattern) → ((place : Place) → Stand place (of_patterns all)) →
    Stand InPattern (of_rules fired all)
stand_pattern [] all h = h InPattern
stand_pattern (first ∷ fired) all h =
    rw (rule_more first fired all) (stand_behind first.findings (of_rules fired all) (stand_rules fired all h))

stand_patterns : (all : List SvrlPattern) (place : Place) → Stand place (of_patterns all)
stand_patterns [] Outside = tt
stand_patterns [] InPattern = tt
stand_patterns [] InRule = tt
stand_patterns (pattern ∷ all) Outside = stand_pattern pattern.fired all (stand_patterns all)
stand_patterns (pattern ∷ all) InPattern = stand_pattern pattern.fired all (stand_patterns all)
stand_patterns (pattern ∷ all) InRule = stand_pattern pattern.fired all (stand_patterns all)

-- prefixes and then other items
abbrev of_prefixes : List Prefix → List Item
of_prefixes all = map (λ prefix. a_prefix prefix) all

prefixes_first : (all : List Prefix) (items : List Item) → prefixes (of_prefixes all ++ items) ≡ all ++ prefixes items
prefixes_first [] items = refl
prefixes_first (prefix ∷ all) items = ap (λ (l : List Prefix). prefix ∷ l) (prefixes_first all items)

patterns_then : (all : List Prefix) (items : List Item) → patterns (of_prefixes all ++ items) ≡ patterns items
patterns_then [] items = refl
patterns_then (prefix ∷ all) items = patterns_then all items

stand_then : (all : List Prefix) (items : List Item) → Stand Outside items → Stand Outside (of_prefixes all ++ items)
stand_then [] items h = h
stand_then (prefix ∷ all) items h = stand_then all items h

-- the items of a report say it
pub record SayReport (report : SvrlReport) : Type 0 where
  pub its_prefixes : prefixes (items_of report) ≡ report.prefixes
  pub its_patterns : patterns (items_of report) ≡ report.patterns
  pub stand : Stand Outside (items_of report)

pub say_report : (report : SvrlReport) → SayReport report
say_report report = record {
  its_prefixes =
      prefixes_first report.prefixes (of_patterns report.patterns)
      ∙ ap (λ (l : List Prefix). report.prefixes ++ l) (no_prefixes report.patterns)
      ∙ append-nil report.prefixes;
  its_patterns = patterns_then report.prefixes (of_patterns report.patterns) ∙ patterns_are report.patterns;
  stand = stand_then report.prefixes (of_patterns report.patterns) (stand_patterns report.patterns Outside);
}
