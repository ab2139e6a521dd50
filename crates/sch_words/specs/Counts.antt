-- Counts as a word says them.
use Rattle.std.specs.Prelude.{ℕ, List, Option}
use Rattle.sch_base.specs.Numbers.{number_up_to}
use Rattle.sch_words.specs.declared.count.TheConstants.{MAX_MEASURED_ITEMS, MAX_UNDO_DEPTH}

-- how many items are measured
abbrev pub count_of : List ℕ → Option ℕ
count_of word = number_up_to MAX_MEASURED_ITEMS word

-- how many edits can be undone
abbrev pub depth_of : List ℕ → Option ℕ
depth_of word = number_up_to MAX_UNDO_DEPTH word
