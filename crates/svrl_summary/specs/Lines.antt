-- The lines of a summary: a line for the whole report, one for each pattern in its order, one for each role of a finding, and one for each
-- flag, both in the order of their bytes. Ids, roles and flags have the escapes of PYX.
use Rattle.std.specs.Prelude.{ℕ, suc, List, [], ◌∷◌, ◌++◌, Option, None, Some, codes, length}
use Rattle.std.specs.Fmt.{decimal}
use Rattle.std.specs.List.{flat_map}
use Rattle.pyx_core.specs.Escapes.{escaped}
use Rattle.svrl_read.specs.declared.value.SvrlReport.{SvrlReport}
use Rattle.svrl_summary.specs.declared.summary.LabelCount.{LabelCount}
use Rattle.svrl_summary.specs.declared.summary.PatternCount.{PatternCount}
use Rattle.svrl_summary.specs.declared.summary.Summary.{Summary}
use Rattle.svrl_summary.specs.declared.tally.Tally.{Tally}
use Rattle.svrl_summary.specs.Summary.{summary_of}

-- a word and a number
unfoldable pub numbered : List ℕ → ℕ → List ℕ
numbered word number = word ++ decimal number

-- what a line tells of fired rules, failed asserts and successful reports
unfoldable pub tally_text : Tally → List ℕ
tally_text tally =
    codes " fired " ++ (decimal tally.fired ++ (codes " asserts " ++ (decimal tally.asserts ++ (codes " reports " ++ decimal tally.reports))))

-- the line of the whole report
abbrev pub whole_line : ℕ → Tally → List ℕ
whole_line patterns tally = numbered (codes "patterns ") patterns ++ (tally_text tally ++ codes "\n")

-- the rest of a pattern's line: its id where it has one
abbrev pub id_text : Option (List ℕ) → List ℕ
id_text None = codes "\n"
id_text (Some id) = codes " id " ++ (escaped id ++ codes "\n")

-- the line of the pattern with a number
abbrev pub pattern_line : ℕ → PatternCount → List ℕ
pattern_line number pattern = numbered (codes "pattern ") number ++ (tally_text pattern.tally ++ id_text pattern.id)

-- the lines of patterns, the first of which has a number
abbrev pub pattern_lines : ℕ → List PatternCount → List ℕ
pattern_lines number [] = []
pattern_lines number (pattern ∷ patterns) = pattern_line number pattern ++ pattern_lines (suc number) patterns

-- the line of a label, behind the word for its kind
abbrev pub label_line : List ℕ → LabelCount → List ℕ
label_line word counted = numbered word counted.count ++ (codes " " ++ (escaped counted.label ++ codes "\n"))

-- the lines of what was counted
abbrev pub lines_of : Summary → List ℕ
lines_of summary =
    whole_line (length summary.patterns) summary.whole
    ++ (pattern_lines 1 summary.patterns
    ++ (flat_map (label_line (codes "role ")) summary.roles
    ++ flat_map (label_line (codes "flag ")) summary.flags))

-- the lines of a report's summary
abbrev pub summary_lines : SvrlReport → List ℕ
summary_lines report = lines_of (summary_of report)
