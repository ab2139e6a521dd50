-- The items so far stand in the text.
use Rattle.std.proofs.Common.{◌≡◌, ◌++◌, codes, string_bytes}
use Rattle.std.specs.List.{flat_map, range_with_len}
use Rattle.sch_measure.specs.Texts.{item_lines}
use Rattle.sch_measure.proofs.texts.document_text.Given as goal

abbrev pub invariant-loop-before : goal.invariant-loop-before
invariant-loop-before l = string_bytes l.text ≡ codes "(list\n" ++ flat_map item_lines (range_with_len 1 l.before)
