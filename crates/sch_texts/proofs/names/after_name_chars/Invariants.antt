-- What follows the characters of what is left follows those of the text.
use Rattle.std.proofs.Common.{List, ℕ, length}
use denote.Text.{Utf8}
use denote.Shadow.{shadow}
use Rattle.sch_texts.specs.Names.{name_chars}
use Rattle.sch_texts.specs.Fronts.{IsAfter}
use Rattle.sch_texts.proofs.names.after_name_chars.Given as goal

abbrev pub invariant-loop-c : goal.invariant-loop-c
invariant-loop-c l = shadow (Utf8 l.rest) × ((rest : List ℕ) → IsAfter name_chars l.rest rest → IsAfter name_chars l.text rest)

abbrev pub decreases-loop-c : goal.decreases-loop-c
decreases-loop-c l = length l.rest
