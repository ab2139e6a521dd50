-- A report that is being read: what one element more makes of it.
use Rattle.std.proofs.Common.{◌≡◌, ℕ, true, false, List, [], ◌∷◌, ◌++◌, Option, None, Some, option_map, option_to_list, refl, sym, ap, ◌∙◌, append-nil, append_assoc}
use Rattle.std.specs.List.{flat_map}
use Rattle.doc_tree.specs.Table.{Table}
use Rattle.svrl_read.specs.declared.building.Builder.{Builder}
use Rattle.svrl_read.specs.declared.value.Fired.{Fired}
use Rattle.svrl_read.specs.declared.value.Prefix.{Prefix}
use Rattle.svrl_read.specs.declared.value.SvrlFinding.{SvrlFinding}
use Rattle.svrl_read.specs.declared.value.SvrlPattern.{SvrlPattern}
use Rattle.svrl_read.specs.declared.value.SvrlReport.{SvrlReport}
use Rattle.svrl_read.specs.declared.words.Word.{Word}
use Rattle.svrl_read.specs.declared.words.Word.TheVariants as word
use Rattle.svrl_read.specs.FirstFault.{place_behind, rule_place}
use Rattle.svrl_read.specs.Places.{word_at}
use Rattle.svrl_read.specs.Value.{finding_of, findings_as, findings_before, pattern_of, patterns_as, patterns_in, prefix_at, prefix_of, prefixes_as, rule_of, rules_as, rules_before}
use Rattle.svrl_read.specs.inner.Building.{after, closed, pattern_with, place_of, report_then, report_with, with_finding, with_pattern}

-- a report by its lists
lists : (report : SvrlReport) (a b : List Prefix) (c d : List SvrlPattern) → a ≡ b → c ≡ d →
    record report { prefixes = a; patterns = c } ≡ record report { prefixes = b; patterns = d }
lists report a b c d same alike = rw (same, alike) refl

-- the open rule with nothing behind it
rule_ends : (fired : Fired) → record fired { findings = fired.findings ++ [] } ≡ fired
rule_ends fired = ap (λ (l : List SvrlFinding). record fired { findings = l }) (append-nil fired.findings)

-- the open pattern with nothing behind it
pattern_ends : (pattern : Option SvrlPattern) (fired : Option Fired) → pattern_with pattern fired [] [] ≡ option_to_list (closed pattern fired)
pattern_ends None None = refl
pattern_ends None (Some fired) = refl
pattern_ends (Some pattern) None =
    ap (λ (l : List Fired). record pattern { fired = l } ∷ []) (append-nil pattern.fired)
pattern_ends (Some pattern) (Some fired) =
    ap (λ (f : Fired). record pattern { fired = pattern.fired ++ f ∷ [] } ∷ []) (rule_ends fired)

-- one finding more
finding_follows : (pattern : Option SvrlPattern) (fired : Option Fired) (finding : SvrlFinding) (findings : List SvrlFinding) (rules : List Fired) →
    pattern_with pattern fired (finding ∷ findings) rules ≡ pattern_with pattern (option_map (with_finding finding) fired) findings rules
finding_follows None fired finding findings rules = refl
finding_follows (Some pattern) None finding findings rules = refl
finding_follows (Some pattern) (Some fired) finding findings rules =
    ap (λ (l : List SvrlFinding). record pattern { fired = pattern.fired ++ record fired { findings = l } ∷ rules } ∷ [])
    (sym (append_assoc fired.findings (finding ∷ []) findings))

-- one rule more
rule_follows : (T : Table) (n : ℕ) (pattern : Option SvrlPattern) (fired : Option Fired) (findings : List SvrlFinding) (rules : List Fired) →
    pattern_with pattern fired [] (rule_of T n findings ∷ rules) ≡ pattern_with (closed pattern fired) (Some (rule_of T n [])) findings rules
rule_follows T n None None findings rules = refl
rule_follows T n None (Some fired) findings rules = refl
rule_follows T n (Some pattern) None findings rules = refl
rule_follows T n (Some pattern) (Some fired) findings rules =
    ap (λ (f : Fired). record pattern { fired = pattern.fired ++ f ∷ rule_of T n findings ∷ rules } ∷ []) (rule_ends fired)
    ∙ ap (λ (l : List Fired). record pattern { fired = l } ∷ []) (sym (append_assoc pattern.fired (fired ∷ []) (rule_of T n findings ∷ rules)))

-- the same of a whole report
finding_read : (b : Builder) (finding : SvrlFinding) (prefixes : List Prefix) (findings : List SvrlFinding) (rules : List Fired) (patterns : List SvrlPattern) →
    report_with b prefixes (finding ∷ findings) rules patterns
    ≡ report_with (record b { fired = option_map (with_finding finding) b.fired }) prefixes findings rules patterns
finding_read b finding prefixes findings rules patterns =
    ap (λ (l : List SvrlPattern). record b.report { prefixes = b.report.prefixes ++ prefixes; patterns = b.report.patterns ++ (l ++ patterns) })
    (finding_follows b.pattern b.fired finding findings rules)

rule_read : (T : Table) (b : Builder) (n : ℕ) (prefixes : List Prefix) (findings : List SvrlFinding) (rules : List Fired) (patterns : List SvrlPattern) →
    report_with b prefixes [] (rule_of T n findings ∷ rules) patterns ≡ report_with (after T b n (Some word.Rule)) prefixes findings rules patterns
rule_read T b n prefixes findings rules patterns =
    ap (λ (l : List SvrlPattern). record b.report { prefixes = b.report.prefixes ++ prefixes; patterns = b.report.patterns ++ (l ++ patterns) })
    (rule_follows T n b.pattern b.fired findings rules)

pattern_read : (T : Table) (b : Builder) (n : ℕ) (prefixes : List Prefix) (findings : List SvrlFinding) (rules : List Fired) (patterns : List SvrlPattern) →
    report_with b prefixes [] [] (pattern_of T n rules ∷ patterns) ≡ report_with (after T b n (Some word.Pattern)) prefixes findings rules patterns
pattern_read T b n prefixes findings rules patterns =
    ap (λ (l : List SvrlPattern). record b.report { prefixes = b.report.prefixes ++ prefixes; patterns = l })
    (ap (λ (l : List SvrlPattern). b.report.patterns ++ (l ++ (pattern_of T n rules ∷ patterns))) (pattern_ends b.pattern b.fired)
    ∙ sym (append_assoc b.report.patterns (option_to_list (closed b.pattern b.fired)) (pattern_of T n rules ∷ patterns)))

prefix_read : (T : Table) (b : Builder) (n : ℕ) (prefixes : List Prefix) (findings : List SvrlFinding) (rules : List Fired) (patterns : List SvrlPattern) →
    report_with b (prefix_of T n ∷ prefixes) findings rules patterns ≡ report_with (after T b n (Some word.Prefix)) prefixes findings rules patterns
prefix_read T b n prefixes findings rules patterns =
    ap (λ (l : List Prefix). record b.report { prefixes = l; patterns = b.report.patterns ++ (pattern_with b.pattern b.fired findings rules ++ patterns) })
    (sym (append_assoc b.report.prefixes (prefix_of T n ∷ []) prefixes))

-- one element more, of this word
reads_as : (T : Table) (b : Builder) (n : ℕ) (w : Option Word) (prefixes : List Prefix) (findings : List SvrlFinding) (rules : List Fired) (patterns : List SvrlPattern) →
    report_with b (prefixes_as T n w ++ prefixes) (findings_as T n w findings) (rules_as T n w findings rules) (patterns_as T n w rules patterns)
    ≡ report_with (after T b n w) prefixes findings rules patterns
reads_as T b n None prefixes findings rules patterns = refl
reads_as T b n (Some word.Output) prefixes findings rules patterns = refl
reads_as T b n (Some word.Prefix) prefixes findings rules patterns = prefix_read T b n prefixes findings rules patterns
reads_as T b n (Some word.Pattern) prefixes findings rules patterns = pattern_read T b n prefixes findings rules patterns
reads_as T b n (Some word.Rule) prefixes findings rules patterns = rule_read T b n prefixes findings rules patterns
reads_as T b n (Some word.Assert) prefixes findings rules patterns = finding_read b (finding_of T true n) prefixes findings rules patterns
reads_as T b n (Some word.Report) prefixes findings rules patterns = finding_read b (finding_of T false n) prefixes findings rules patterns
reads_as T b n (Some word.Diagnostic) prefixes findings rules patterns = refl
reads_as T b n (Some word.Property) prefixes findings rules patterns = refl
reads_as T b n (Some word.Text) prefixes findings rules patterns = refl

-- one element more
pub reads : (T : Table) (b : Builder) (n : ℕ) (kids : List ℕ) → report_then T b (n ∷ kids) ≡ report_then T (after T b n (word_at T n)) kids
reads T b n kids = reads_as T b n (word_at T n) (flat_map (prefix_at T) kids) (findings_before T kids) (rules_before T kids) (patterns_in T kids)

-- no element more
pub reads_no_more : (T : Table) (b : Builder) → report_then T b [] ≡ with_pattern (closed b.pattern b.fired) b.report
reads_no_more T b =
    lists b.report (b.report.prefixes ++ []) b.report.prefixes (b.report.patterns ++ (pattern_with b.pattern b.fired [] [] ++ []))
    (b.report.patterns ++ option_to_list (closed b.pattern b.fired)) (append-nil b.report.prefixes)
    (ap (λ (l : List SvrlPattern). b.report.patterns ++ l) (append-nil (pattern_with b.pattern b.fired [] []) ∙ pattern_ends b.pattern b.fired))

-- the place behind a finding, and behind a rule
finding_place : (pattern : Option SvrlPattern) (fired : Option Fired) (finding : SvrlFinding) →
    place_of pattern (option_map (with_finding finding) fired) ≡ place_of pattern fired
finding_place None fired finding = refl
finding_place (Some pattern) None finding = refl
finding_place (Some pattern) (Some fired) finding = refl

place_of_rule : (pattern : Option SvrlPattern) (fired : Option Fired) (next : Fired) →
    place_of (closed pattern fired) (Some next) ≡ rule_place (place_of pattern fired)
place_of_rule None None next = refl
place_of_rule None (Some fired) next = refl
place_of_rule (Some pattern) None next = refl
place_of_rule (Some pattern) (Some fired) next = refl

-- where the next element stands
pub stands : (T : Table) (b : Builder) (n : ℕ) (w : Option Word) →
    place_of (after T b n w).pattern (after T b n w).fired ≡ place_behind (place_of b.pattern b.fired) w
stands T b n None = refl
stands T b n (Some word.Output) = refl
stands T b n (Some word.Prefix) = refl
stands T b n (Some word.Pattern) = refl
stands T b n (Some word.Rule) = place_of_rule b.pattern b.fired (rule_of T n [])
stands T b n (Some word.Assert) = finding_place b.pattern b.fired (finding_of T true n)
stands T b n (Some word.Report) = finding_place b.pattern b.fired (finding_of T false n)
stands T b n (Some word.Diagnostic) = refl
stands T b n (Some word.Property) = refl
stands T b n (Some word.Text) = refl
